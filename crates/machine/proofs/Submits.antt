-- A submit at a place with the invariant: its answer is the one that the calls and answers before it give, and it keeps the
-- invariant. Assumes nothing.
use mathlib.Core.Path.{◌≡◌, refl, sym, ◌∙◌, ap}
use mathlib.Core.Bool.{Bool, true, false, true≢false}
use mathlib.Core.Logic.{inl, inr, ⊎_elim}
use mathlib.Core.List.{List, [], ◌∷◌}
use Prim.Native.Nat.{ℕ, suc, ◌+◌, ◌*◌, ◌≤◌, ◌<◌}
use native.Mathlib.Nat.{sub-zero}
use native.Mathlib.Numerals.{add-one}
use native.Mathlib.Omega.{arith}
use borrow.Author.Tests.{eq-eqb, ne_eqb, eqb-true, ltb-true}
use lib.Dec.{eqb, ltb}
use lib.ListN.{length}
use Rattle.limits.specs.Errors.{Outcome, Check, ◌otherwise◌, first_refusal}
use Rattle.limits.specs.Limits.{buffer_pixels}
use Rattle.limits.specs.declared.ErrorCode.{ErrorCode}
use Rattle.limits.specs.declared.ErrorCode.TheVariants.{NoFreeBuffers, NumbersUsedUp}
use Rattle.kernel.specs.declared.Choice.{Choice}
use Rattle.covariance.specs.declared.Shape.{Shape}
use Rattle.covariance.specs.Shapes.{covariance_xx, covariance_xy, covariance_yy}
use Rattle.averaging.specs.Steps.{iterate}
use Rattle.machine.specs.Slots.{slot_at}
use Rattle.machine.specs.Store.{put, buffer_after}
use Rattle.machine.specs.Calls.{submit, Result, empty_place, last_number, free_buffers, choice_by, submitted_checks, submit_checks, new_slot, submit_at, submit_of}
use Rattle.machine.specs.History.{Event, Place, accepts, held, numbers, how_many, job_count, held_count}
use Rattle.machine.specs.Demand.{number_unless, submit_answer, countdown}
use Rattle.machine.proofs.Parts.{length_put, part_own, part_other}
use Rattle.machine.proofs.Words.{Untouched, same_held, started_held, started_job, started_ticks, many_same}
use Rattle.limits.proofs.Checks.{AllHold, all_hold}
use Rattle.machine.proofs.Rules.{block, within_block, from_block, in_store, free_test}
use Rattle.machine.proofs.Orderly.{empty_there, empty_found}
use Rattle.machine.proofs.Invariant.{Invariant, size, Sits, JobFine, Change, changed, is_usable, fits_le, choice_twice, free_of_choice}
use Rattle.machine.proofs.Served.{Served, sets, refused_call}
use Rattle.std.specs.Prelude.{Some, Ok, Err}
use Rattle.machine.specs.declared.Answer.TheVariants.{Job}

module _ (p : Place) (v : Invariant p) (choice : Choice) (shape : Shape) (k w h : ℕ) (pixels : List ℕ) where
  -- the checks, with what the calls and answers say in the place of the record
  abbrev tests : List Check
  tests =
      submitted_checks shape k w h pixels
      ((ltb (held_count p.history) (size p) otherwise NoFreeBuffers) ∷ (ltb (job_count p.history) last_number otherwise NumbersUsedUp) ∷ [])

  abbrev checks : Outcome
  checks = first_refusal tests

  checks_are : submit_checks p.rules p.service p.store shape k w h pixels ≡ checks
  unfolding submit_checks free_buffers
  checks_are = rw (is_usable p v, v.counted, free_test p.rules v.workable (held_count p.history), v.last)

  abbrev number : ℕ
  number = p.service.last + 1

  abbrev event : Event
  event = record { rules = p.rules; call = submit choice shape k w h pixels; answer = Ok (Job number); lent = pixels }

  is_new : (n : ℕ) → (n ≡ number → ⊥) → Untouched event n
  is_new n ne = record { unstarted = ne_eqb number n (λ x. ne (sym x)); unserved = refl; unended = refl }

  starts_it : eqb number number ≡ true
  starts_it = eq-eqb number number refl

  number_is : number ≡ suc (job_count p.history)
  number_is = rw v.last (add-one (job_count p.history))

  given_now : numbers (event ∷ p.history) ≡ countdown (suc (job_count p.history))
  unfolding numbers
  given_now = rw (number_is) (ap (λ ns. suc (job_count p.history) ∷ ns) v.given)

  jobs_now : job_count (event ∷ p.history) ≡ suc (job_count p.history)
  unfolding numbers
  jobs_now = refl

  held_now : held_count (event ∷ p.history) ≡ held_count p.history + 1
  unfolding numbers how_many
  held_now =
      rw (started_held event p.history number starts_it)
      (ap (λ x. x + 1)
      (rw v.given
      (many_same (held (event ∷ p.history)) (held p.history) (job_count p.history)
      (λ n g l. same_held event p.history n (is_new n (λ x. omega (arith, number_is)))))))

  -- ---- accepted
  module _ (fine : checks ≡ Ok tt) where
    all : AllHold tests
    all = all_hold tests fine

    full : length pixels ≡ w * h
    full = eqb-true (length pixels) (w * h) all.1.1.1.1.0

    small : w * h ≤ buffer_pixels
    small = fits_le w h all.1.1.1.1.1.0

    job_fine : JobFine (record { rules = p.rules; choice = choice_by p.rules choice; shape = shape; steps = k; width = w; height = h; picture = pixels })
    job_fine =
        record {
          workable = v.workable;
          choice = choice_twice p.rules choice;
          variances = all.0;
          direction = all.1.0;
          steps = all.1.1.0;
          sides = all.1.1.1.0;
          fits = all.1.1.1.1.1.0;
          kernel = all.1.1.1.1.1.1.0;
          full = full;
        }

    -- the empty slot that is found where fewer jobs are held than there are slots
    spot : (i : ℕ) × (empty_place p.rules p.service ≡ Some i)
    spot =
        empty_there p.rules v.workable p.service
        (rw v.counted (ltb-true (held_count p.history) (size p) all.1.1.1.1.1.1.1.0))

    is_empty_lem : (spot.0 < size p) × ((slot_at p.service spot.0).number ≡ 0)
    is_empty_lem = empty_found p.rules v.workable p.service spot.0 spot.1

    result : submit_of p.rules p.service p.store choice shape k w h pixels ≡ submit_at p.rules p.service p.store choice shape k w h pixels (Some spot.0)
    unfolding submit_of
    result = rw (checks_are, fine, spot.1)

    room : buffer_after p.rules spot.0 0 + length pixels ≤ length p.store
    room = rw (full, v.long) (in_store p.rules v.workable spot.0 0 (w * h) is_empty_lem.0 small)

    sits : Sits p.rules (event ∷ p.history) (put (buffer_after p.rules spot.0 0) pixels p.store) spot.0 number (new_slot p.rules number choice shape k w h)
    unfolding iterate
    sits =
        let j = started_job event p.history number starts_it in
        let t = started_ticks event p.history number starts_it in
        record {
          positive = omega arith;
          known = rw jobs_now (omega (arith, number_is));
          is_held = started_held event p.history number starts_it;
          is = rw (j, t, sub-zero k, free_of_choice choice (covariance_xx shape) (covariance_xy shape) (covariance_yy shape) k p.rules.holds_choice);
          chosen = rw j (choice_twice p.rules choice);
          few = rw t (omega arith);
          fine = rw j job_fine;
          image = rw (j, t) (part_own (buffer_after p.rules spot.0 0) (w * h) pixels p.store full (omega (arith, full, room)));
        }

    change : Change p (submit choice shape k w h pixels) spot.0 number (new_slot p.rules number choice shape k w h)
    change =
        record {
          at = is_empty_lem.0;
          slots = rw result;
          before = inl is_empty_lem.1;
          only = λ j g ne e. ⊎_elim (λ z. let q = sym (ap (λ s. s.number) z) ∙ e in omega arith) (λ z. let q = sym (ap (λ s. s.number) z.1.is) ∙ e in omega (arith, z.1.known, number_is)) (v.taken j g);
          others = λ n ne. rw result (is_new n ne);
          long = rw result (length_put (buffer_after p.rules spot.0 0) pixels p.store room ∙ v.long);
          apart =
              λ j a n ne x y. rw result
              (part_other (block p.rules) j spot.0 (buffer_after p.rules spot.0 0) a n pixels p.store room ne (from_block p.rules v.workable spot.0 0)
              (within_block p.rules v.workable spot.0 0 (length pixels) (omega (arith, full, small))) x y);
          grows = rw (result, jobs_now) (omega arith);
          new = rw result (inr sits);
          filled = rw result is_empty_lem.0;
          served = rw result v.served;
          last = rw (result, jobs_now) number_is;
          given = rw (result, jobs_now) given_now;
          counted = rw (result, held_now, is_empty_lem.1, ne_eqb number 0 (λ x. omega arith)) (omega arith);
        }

    -- no job has this number yet
    unheld : held p.history number ≡ false
    unheld = go (held p.history number) refl
      where
        go : (t : Bool) → held p.history number ≡ t → held p.history number ≡ false
        go true e =
            let w = v.placed number e in
            ⊎_elim (λ z. let q = sym (ap (λ s. s.number) z) ∙ w.2 in absurd (omega arith))
            (λ z. let q = sym (ap (λ s. s.number) z.1.is) ∙ w.2 in absurd (omega (arith, z.1.known, number_is))) (v.taken w.0 w.1)
        go false e = e

    submit_accepted : Served p (submit choice shape k w h pixels) (Ok (Job (job_count p.history + 1)))
    submit_accepted =
        record {
          answered = ap (λ (r : Result). r.answer) result ∙ ap (λ n. Ok (Job n)) (ap (λ n. n + 1) v.last);
          keeps = changed p v (submit choice shape k w h pixels) spot.0 number (new_slot p.rules number choice shape k w h) change;
          effect = sets spot.0 number (new_slot p.rules number choice shape k w h) change (inl unheld);
          turn = λ t. ap (λ (r : Result). r.service.served) result;
          unchanged = λ e. absurd (true≢false (sym (ap (λ (r : Result). accepts r.answer) result) ∙ e));
        }

  refused : (code : ErrorCode) → checks ≡ Err code
      → submit_of p.rules p.service p.store choice shape k w h pixels ≡ record { answer = Err code; service = p.service; store = p.store; lent = pixels }
  unfolding submit_of
  refused code e = rw (checks_are, e)

  submits_when : (o : Outcome) → checks ≡ o → Served p (submit choice shape k w h pixels) (number_unless o (job_count p.history + 1))
  submits_when (Ok done) e = submit_accepted e
  submits_when (Err code) e = refused_call p v (submit choice shape k w h pixels) code (refused code e)

  pub submits : Served p (submit choice shape k w h pixels) (submit_answer p.rules p.history shape k w h pixels)
  submits = submits_when checks refl
