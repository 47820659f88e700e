-- `job_text::print_job` meets its contract: the kernel and the picture, or the refusal. Assumes nothing.
use mathlib.Core.Path.{sym}
use Rattle.limits.specs.Errors.{first_refusal}
use Rattle.limits.proofs.Checks.{accepted_alone, refused_alone}
use Rattle.job_text.specs.Answer.{job_checks, job_kernel}
use Rattle.job_text.proofs.Runs.{shown_after_lem, positive, pixels_fit, kernel_fits, picture_fits, job_printed, refused_text}
use Rattle.job_text.proofs.print_job.Goals as goal

pub kernel-requires : goal.kernel-requires
kernel-requires c =
    let a = c.args in
    let h = a.header in
    let k = accepted_alone (first_refusal (job_checks h)) (job_kernel h) c.in-Ok.kernel (sym c.in-Ok.ensures.value) in
    let shown = shown_after_lem h a.first.now a.second.now c.requires.first_len c.requires.second_len (rw c.shape_of-shape.ensures at c.shown-pixels.ensures) c.in-Ok.ensures.first_after c.in-Ok.ensures.second_after in
    record { sum_nonzero = positive h a.first.now a.second.now c.requires.first_len c.requires.second_len k.0 c.in-Ok.kernel k.1 c.shown-pixels.result.now shown a.printer.now c.requires.room; room = kernel_fits h a.first.now a.second.now c.requires.first_len c.requires.second_len k.0 c.in-Ok.kernel k.1 c.shown-pixels.result.now shown a.printer.now c.requires.room }

pub picture-requires : goal.picture-requires
picture-requires c =
    let a = c.args in
    let h = a.header in
    let k = accepted_alone (first_refusal (job_checks h)) (job_kernel h) c.in-Ok.kernel (sym c.in-Ok.ensures.value) in
    let shown = shown_after_lem h a.first.now a.second.now c.requires.first_len c.requires.second_len (rw c.shape_of-shape.ensures at c.shown-pixels.ensures) c.in-Ok.ensures.first_after c.in-Ok.ensures.second_after in
    record { len = pixels_fit h a.first.now a.second.now c.requires.first_len c.requires.second_len k.0 c.in-Ok.kernel k.1 c.shown-pixels.result.now shown a.printer.now c.requires.room; room = picture_fits h a.first.now a.second.now c.requires.first_len c.requires.second_len k.0 c.in-Ok.kernel k.1 c.shown-pixels.result.now shown a.printer.now c.requires.room c.kernel.new.self c.kernel.ensures }

pub returns-in-Ok : goal.returns-in-Ok
returns-in-Ok c =
    let a = c.args in
    let h = a.header in
    let k = accepted_alone (first_refusal (job_checks h)) (job_kernel h) c.in-Ok.kernel (sym c.in-Ok.ensures.value) in
    let shown = shown_after_lem h a.first.now a.second.now c.requires.first_len c.requires.second_len (rw c.shape_of-shape.ensures at c.shown-pixels.ensures) c.in-Ok.ensures.first_after c.in-Ok.ensures.second_after in
    job_printed h a.first.now a.second.now c.requires.first_len c.requires.second_len k.0 c.in-Ok.kernel k.1 c.shown-pixels.result.now shown a.printer.now c.requires.room c.kernel.new.self c.kernel.ensures c.picture.new.self c.picture.ensures

pub refusal-requires : goal.refusal-requires
refusal-requires c =
    let a = c.args in
    let refused = refused_alone (first_refusal (job_checks a.header)) (job_kernel a.header) c.in-Err.code (sym c.in-Err.ensures.value) in
    rw (refused_text a.header a.first.now a.second.now c.requires.first_len c.requires.second_len c.in-Err.code refused) c.requires.room

pub returns-in-Err : goal.returns-in-Err
returns-in-Err c =
    let a = c.args in
    let refused = refused_alone (first_refusal (job_checks a.header)) (job_kernel a.header) c.in-Err.code (sym c.in-Err.ensures.value) in
    rw (refused_text a.header a.first.now a.second.now c.requires.first_len c.requires.second_len c.in-Err.code refused) at c.refusal.ensures
