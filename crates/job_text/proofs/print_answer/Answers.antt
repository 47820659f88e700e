-- `job_text::print_answer` meets its contract: the parser left the job's pixels at the front of the first picture. Assumes nothing.
use mathlib.Core.Path.{◌≡◌, sym, ap, ◌∙◌}
use mathlib.Core.List.{List}
use Prim.Native.Nat.{ℕ, ◌*◌, ◌≤◌}
use native.Mathlib.Nat.{le_trans}
use lib.ListN.{length, take}
use lib.Seq.{length-take-le}
use Rattle.job_parser.specs.declared.Header.{Header}
use Rattle.job_parser.specs.Pictures.{most_pixels}
use Rattle.job_text.specs.Answer.{job_answer, answer_text}
use Rattle.job_text.proofs.Answering.{Left, left, no_job_text}
use Rattle.job_text.proofs.print_answer.Goals as goal

-- the text is a job: its pixels are the front of the first picture, which a part of the second matches
module _ {text exit : List ℕ} {h : Header} (job : Left text exit h) (size : ℕ) (size_is : size ≡ h.width * h.height) where
  size_fits : size ≤ length exit
  size_fits = rw size_is job.inside

  size_fits_second : (second : List ℕ) → most_pixels ≤ length second → size ≤ length second
  size_fits_second second room = rw size_is (le_trans job.fits room)

  text_is : job_answer h (take size exit) ≡ answer_text text
  text_is = ap (λ n. job_answer h (take n exit)) size_is ∙ sym job.answer

pub slice_bounds-print_job-end : goal.slice_bounds-print_job-end
slice_bounds-print_job-end c =
    let job = left c.args.text.now c.args.first.now c.read_job.new.pixels c.in-Some.header (sym c.read_job.ensures.value ∙ c.in-Some.is) c.read_job.ensures.pixels_after in
    size_fits job c.area-size.result c.area-size.ensures

pub slice_bounds-print_job-end-in-Some : goal.slice_bounds-print_job-end-in-Some
slice_bounds-print_job-end-in-Some c =
    let job = left c.args.text.now c.args.first.now c.read_job.new.pixels c.in-Some.header (sym c.read_job.ensures.value ∙ c.in-Some.is) c.read_job.ensures.pixels_after in
    sym (length-take-le c.area-size.result c.read_job.new.pixels (size_fits job c.area-size.result c.area-size.ensures))

pub slice_bounds-print_job-end-in-Some-2 : goal.slice_bounds-print_job-end-in-Some-2
slice_bounds-print_job-end-in-Some-2 c =
    let job = left c.args.text.now c.args.first.now c.read_job.new.pixels c.in-Some.header (sym c.read_job.ensures.value ∙ c.in-Some.is) c.read_job.ensures.pixels_after in
    size_fits_second job c.area-size.result c.area-size.ensures c.args.second.now c.requires.room_in_second

pub slice_bounds-print_job-end-in-Some-3 : goal.slice_bounds-print_job-end-in-Some-3
slice_bounds-print_job-end-in-Some-3 c =
    let job = left c.args.text.now c.args.first.now c.read_job.new.pixels c.in-Some.header (sym c.read_job.ensures.value ∙ c.in-Some.is) c.read_job.ensures.pixels_after in
    sym (length-take-le c.area-size.result c.args.second.now (size_fits_second job c.area-size.result c.area-size.ensures c.args.second.now c.requires.room_in_second))

pub print_job-requires : goal.print_job-requires
print_job-requires c =
    let size = c.area-size.result in
    let job = left c.args.text.now c.args.first.now c.read_job.new.pixels c.in-Some.header (sym c.read_job.ensures.value ∙ c.in-Some.is) c.read_job.ensures.pixels_after in
    record {
      first_len = length-take-le size c.read_job.new.pixels (size_fits job size c.area-size.ensures) ∙ c.area-size.ensures;
      second_len = length-take-le size c.args.second.now (size_fits_second job size c.area-size.ensures c.args.second.now c.requires.room_in_second) ∙ c.area-size.ensures;
      room = rw (text_is job size c.area-size.ensures) c.requires.room;
    }

pub refusal-requires : goal.refusal-requires
refusal-requires c = rw (no_job_text c.args.text.now (sym c.read_job.ensures.value ∙ c.in-None.is)) c.requires.room

pub returns-in-Some : goal.returns-in-Some
returns-in-Some c =
    let job = left c.args.text.now c.args.first.now c.read_job.new.pixels c.in-Some.header (sym c.read_job.ensures.value ∙ c.in-Some.is) c.read_job.ensures.pixels_after in
    rw (text_is job c.area-size.result c.area-size.ensures) at c.print_job.ensures

pub returns-in-None : goal.returns-in-None
returns-in-None c = rw (no_job_text c.args.text.now (sym c.read_job.ensures.value ∙ c.in-None.is)) at c.refusal.ensures
