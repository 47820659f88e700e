-- `job_printer`'s `number` meets its contract. Assumes nothing.
use mathlib.Core.Path.{◌≡◌, refl, sym, ap, ◌∙◌}
use mathlib.Core.List.{List, [], ◌∷◌, append_assoc, append-nil}
use Prim.Native.Nat.{ℕ, suc, ◌+◌, ◌-◌, ◌/◌, ◌%◌, ◌≤◌, ◌<◌}
use native.Mathlib.Omega.{arith}
use lib.ListN.{length, set, length-set}
use Rattle.job_printer.specs.Numerals.{digit, numeral}
use Rattle.job_printer.specs.Buffers.{written}
use Rattle.job_printer.proofs.Numerals.{lowest, lowest_all}
use Rattle.job_printer.proofs.Buffers.{written_none, written_before}
use Rattle.job_printer.proofs.printer.Printer.number.Goals as goal
use Rattle.job_printer.proofs.printer.Printer.number.Invariants.{Backward}

step : (n at : ℕ) (entry out : List ℕ) (i rest : ℕ) → at + length (numeral n) ≤ length entry → at < i → Backward n at entry out i rest → Backward n at entry (set out (i - 1) (digit (rest % 10))) (i - 1) (rest / 10)
step n at entry out i rest room more b =
    let one : i ≡ suc (i - 1) = omega arith in
    let left : i - at ≡ suc (i - 1 - at) = omega arith in
    let ends = b.ends in
    let tail = b.tail in
    let fits : suc (i - 1) + length tail ≤ length entry = omega arith in
    let stored : out ≡ written entry (suc (i - 1)) tail = b.stored ∙ ap (λ k. written entry k tail) one in
    let now : set out (i - 1) (digit (rest % 10)) ≡ written entry (i - 1) (digit (rest % 10) ∷ tail) = rw stored (written_before entry (i - 1) (digit (rest % 10)) tail fits) in
    record {
      tail = digit (rest % 10) ∷ tail;
      digits = sym (append_assoc (lowest (i - 1 - at) (rest / 10)) (digit (rest % 10) ∷ []) tail) ∙ rw left at b.digits;
      stored = now;
      low = omega arith;
      ends = omega arith;
      same = rw length-set b.same;
    }

whole : (n at : ℕ) (entry : List ℕ) → Backward n at entry entry (at + length (numeral n)) n
whole n at entry =
    let all : at + length (numeral n) - at ≡ length (numeral n) = omega arith in
    record { tail = []; digits = rw (all, append-nil) (lowest_all n); stored = sym (written_none entry (at + length (numeral n))); low = omega arith; ends = omega arith; same = refl }

done : (n at : ℕ) (entry out : List ℕ) (i rest : ℕ) → i ≤ at → Backward n at entry out i rest → out ≡ written entry at (numeral n)
done n at entry out i rest last b =
    let low = b.low in
    let here : i ≡ at = omega arith in
    let none : i - at ≡ 0 = omega arith in
    let tail : b.tail ≡ numeral n = rw none at b.digits in
    b.stored ∙ rw (here, tail)

pub loop-place-init : goal.loop-place-init
loop-place-init c = record { same_buffer = refl; backward = rw c.count_digits.ensures (whole c.args.n c.args.self.now.at c.args.self.now.out.now) }

pub loop-place-preserved : goal.loop-place-preserved
loop-place-preserved c =
    let l = c.loop-place in
    record { same_buffer = l.invariant.same_buffer; backward = step c.args.n c.args.self.now.at c.args.self.now.out.now l.self.out.now l.place l.rest c.requires c.loop-place-test.true l.invariant.backward }

pub returns : goal.returns
returns c =
    let l = c.loop-place in
    record {
      same_buffer = l.invariant.same_buffer;
      wrote = record { is = done c.args.n c.args.self.now.at c.args.self.now.out.now l.self.out.now l.place l.rest c.loop-place-test.false l.invariant.backward; ends = ap (λ k. c.args.self.now.at + k) c.count_digits.ensures };
    }
