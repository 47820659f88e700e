-- A collect or a withdraw at a place with the invariant: it finds a job exactly where it is held, and an accepted one ends
-- it; a collect hands over the picture after all its steps. Assumes nothing.
use mathlib.Core.Path.{◌≡◌, refl, sym, ◌∙◌, ap, subst}
use mathlib.Core.Bool.{Bool, true, false, not, cond, true≢false}
use mathlib.Core.Logic.{inl, inr, ⊎_elim}
use mathlib.Core.List.{List, [], ◌∷◌}
use Prim.Native.Nat.{ℕ, zero, suc, ◌+◌, ◌-◌, ◌*◌, ◌<◌}
use native.Mathlib.Nat.{le_refl}
use native.Mathlib.Omega.{arith}
use borrow.Author.Tests.{eq-eqb, ne_eqb, eqb-true, eqb-false, lt-ltb}
use lib.Dec.{eqb, ltb}
use lib.ListN.{length}
use Rattle.limits.specs.Limits.{fills_picture}
use Rattle.limits.specs.Errors.{Outcome, Check, ◌otherwise◌, first_refusal}
use Rattle.limits.specs.declared.ErrorCode.{ErrorCode}
use Rattle.limits.specs.declared.ErrorCode.TheVariants.{NoSuchJob, StepsAreLeft, WrongLength}
use Rattle.machine.specs.declared.Slot.{Slot}
use Rattle.machine.specs.Slots.{empty_slot, slot_at, is_empty, has_number, first_from}
use Rattle.machine.specs.Store.{part, buffer_after, current_image}
use Rattle.machine.specs.Calls.{Call, collect, withdraw, Result, call_of, place_of, emptied, collect_checks, collect_of, withdraw_of}
use Rattle.machine.specs.History.{Event, Place, accepts, starts_by, serves_by, ends_by, Submitted, alone_after, job_of, held, ticks_of, steps_left, given_by, numbers, job_count, held_count}
use Rattle.machine.specs.Demand.{number_unless, withdraw_answer, collect_answer, answer_at, lent_after}
use Rattle.machine.proofs.Search.{distance, hit, found}
use Rattle.machine.proofs.Words.{Untouched, same_held, ended_held, many_less}
use Rattle.limits.proofs.Checks.{AllHold, all_hold}
use Rattle.machine.proofs.Invariant.{Invariant, size, Sits, Change, changed, in_order_lem, is_usable}
use Rattle.machine.proofs.Served.{Served, sets, refused_call}
use Rattle.std.specs.Prelude.{Option, Some, None, Ok, Err}
use Rattle.machine.specs.declared.Answer.TheVariants.{Job}
use Rattle.machine.specs.Answers.{Answered}

-- a call that ends the job with a number where it is accepted: a collect or a withdraw
record Ending (c : Call) (n : ℕ) : Type 0 where
  starts_none : (a : Answered) (m : ℕ) → starts_by c a m ≡ false
  serves_none : (a : Answered) (m : ℕ) → serves_by c a m ≡ false
  ends_own : ends_by c (Ok (Job n)) n ≡ true
  ends_only : (m : ℕ) → (m ≡ n → ⊥) → ends_by c (Ok (Job n)) m ≡ false
  gives_none : (a : Answered) (ns : List ℕ) → given_by c a ns ≡ ns

withdraw_ends : (n : ℕ) → Ending (withdraw n) n
withdraw_ends n =
    record {
      starts_none = λ a m. refl;
      serves_none = λ a m. refl;
      ends_own = rw (eq-eqb n n refl);
      ends_only = λ m ne. rw (ne_eqb n m (λ x. ne (sym x)));
      gives_none = λ a ns. refl;
    }

collect_ends : (n : ℕ) (lent : List ℕ) → Ending (collect n lent) n
collect_ends n lent =
    record {
      starts_none = λ a m. refl;
      serves_none = λ a m. refl;
      ends_own = rw (eq-eqb n n refl);
      ends_only = λ m ne. rw (ne_eqb n m (λ x. ne (sym x)));
      gives_none = λ a ns. refl;
    }

module _ (p : Place) (v : Invariant p) where
  -- ---- where a job sits
  sits_with : (n i : ℕ) → 0 < n → i < size p → (slot_at p.service i).number ≡ n → Sits p.rules p.history p.store i n (slot_at p.service i)
  sits_with n i g h e =
      ⊎_elim
      (λ z. absurd (let q = sym e ∙ ap (λ (s : Slot). s.number) z in omega arith))
      (λ z. let q : z.0 ≡ n = sym (ap (λ (s : Slot). s.number) z.1.is) ∙ e in subst (λ m. Sits p.rules p.history p.store i m (slot_at p.service i)) q z.1)
      (v.taken i h)

  pub record Seated (n : ℕ) : Type 0 where
    pub at : ℕ
    pub below : at < size p
    pub is : place_of p.rules p.service n ≡ Some at
    pub sits : Sits p.rules p.history p.store at n (slot_at p.service at)

  pub seated : (n : ℕ) → held p.history n ≡ true → Seated n
  seated n h =
      let w = v.placed n h in
      let d = distance (size p) 0 w.0 v.workable.some_slot w.1 in
      let g = hit (has_number n) p.service.slots (size p) w.0 (eq-eqb _ _ w.2) w.1 (size p) 0 d.0 v.workable.some_slot d.1 d.2 (omega arith) in
      record {
        at = g.at;
        below = g.below;
        is = rw (ne_eqb n 0 (λ x. omega (arith, w.3))) g.is;
        sits = sits_with n g.at w.3 g.below (eqb-true _ _ g.passes);
      }

  pub unseated : (n : ℕ) → held p.history n ≡ false → place_of p.rules p.service n ≡ None
  unseated n h = zero_or (eqb n 0) refl
    where
      go : (f : Option ℕ) → first_from (has_number n) p.service.slots (size p) 0 (size p) ≡ f → (n ≡ 0 → ⊥) → f ≡ None
      go None e ne = refl
      go (Some i) e ne =
          let w = found (has_number n) p.service.slots (size p) v.workable.some_slot (size p) 0 i v.workable.some_slot e in
          let s = sits_with n i (omega arith) w.0 (eqb-true _ _ w.1) in
          absurd (true≢false (sym s.is_held ∙ h))

      zero_or : (t : Bool) → eqb n 0 ≡ t → cond t None (first_from (has_number n) p.service.slots (size p) 0 (size p)) ≡ None
      zero_or true e = refl
      zero_or false e = go (first_from (has_number n) p.service.slots (size p) 0 (size p)) refl (eqb-false n 0 e)

  -- ---- the job is ended
  module _ (c : Call) (n i : ℕ) (lent : List ℕ) (ending : Ending c n) (at : i < size p) (s : Sits p.rules p.history p.store i n (slot_at p.service i))
      (result : call_of p.rules p.service p.store c ≡ record { answer = Ok (Job n); service = emptied p.service i; store = p.store; lent = lent }) where
    abbrev event : Event
    event = record { rules = p.rules; call = c; answer = Ok (Job n); lent = lent }

    number : (slot_at p.service i).number ≡ n
    number = ap (λ (s : Slot). s.number) s.is

    others : (m : ℕ) → (m ≡ n → ⊥) → Untouched event m
    others m ne = record { unstarted = ending.starts_none (Ok (Job n)) m; unserved = ending.serves_none (Ok (Job n)) m; unended = ending.ends_only m ne }

    same_given : numbers (event ∷ p.history) ≡ numbers p.history
    unfolding numbers
    same_given = ending.gives_none (Ok (Job n)) (numbers p.history)

    gone : held (event ∷ p.history) n ≡ false
    gone = ended_held event p.history n (ending.starts_none (Ok (Job n)) n) ending.ends_own

    one_less : held_count p.history ≡ held_count (event ∷ p.history) + 1
    one_less =
        rw (same_given, v.given)
        (many_less (held p.history) (held (event ∷ p.history)) n (job_count p.history) s.positive s.known s.is_held gone
        (λ m ne. sym (same_held event p.history m (others m ne))))

    nonempty : is_empty (slot_at p.service i) ≡ false
    nonempty = ne_eqb (slot_at p.service i).number 0 (λ x. omega (arith, number, s.positive))

    change : Change p c i n empty_slot
    change =
        record {
          at = at;
          slots = rw result;
          before = inr number;
          only = λ j g ne x. ne (sym (v.once i j at g (omega (arith, number, s.positive)) (number ∙ sym x)));
          others = λ m ne. rw result (others m ne);
          long = rw result v.long;
          apart = λ j a k ne x y. rw result;
          grows = rw (result, same_given) (le_refl (job_count p.history));
          new = rw result (inl (refl, gone));
          filled = rw result v.filled;
          served = rw result v.served;
          last = rw (result, same_given) v.last;
          given = rw (result, same_given) v.given;
          counted = rw (result, nonempty) (omega (arith, one_less));
        }

    ended : Served p c (Ok (Job n))
    ended =
        record {
          answered = ap (λ (r : Result). r.answer) result;
          keeps = changed p v c i n empty_slot change;
          effect = sets i n empty_slot change (inr (inl (rw result ending.ends_own)));
          turn = λ t. ap (λ (r : Result). r.service.served) result;
          unchanged = λ x. absurd (true≢false (sym (ap (λ (r : Result). accepts r.answer) result) ∙ x));
        }

  -- ---- withdraw
  withdraws_when : (n : ℕ) (t : Bool) → held p.history n ≡ t → Served p (withdraw n) (number_unless (first_refusal ((t otherwise NoSuchJob) ∷ [])) n)
  unfolding withdraw_of
  withdraws_when n true h =
      let w = seated n h in
      ended (withdraw n) n w.at [] (withdraw_ends n) w.below w.sits (rw (in_order_lem p v, w.is))
  withdraws_when n false h = refused_call p v (withdraw n) NoSuchJob (rw (in_order_lem p v, unseated n h))

  pub withdraws : (n : ℕ) → Served p (withdraw n) (withdraw_answer p.history n)
  withdraws n = withdraws_when n (held p.history n) refl

  -- ---- collect
  not_left : (x : ℕ) → not (ltb 0 x) ≡ eqb x 0
  not_left zero = refl
  not_left (suc x) = rw (lt-ltb 0 (suc x) (omega arith), ne_eqb (suc x) 0 (λ e. omega arith))

  module _ (n : ℕ) (lent : List ℕ) where
    abbrev job : Submitted
    job = job_of p.history n

    abbrev tests : List Check
    tests =
        (held p.history n otherwise NoSuchJob)
        ∷ (eqb (steps_left p.history n) 0 otherwise StepsAreLeft)
        ∷ (fills_picture (length lent) job.width job.height otherwise WrongLength)
        ∷ []

    abbrev checks : Outcome
    checks = first_refusal tests

    checks_are : (t : Bool) → held p.history n ≡ t → collect_checks p.rules p.service p.store n lent ≡ checks
    unfolding collect_checks
    checks_are true h = let w = seated n h in rw (is_usable p v, w.is, h, w.sits.is, not_left (steps_left p.history n))
    checks_are false h = rw (is_usable p v, unseated n h, h)

    refused : (code : ErrorCode) → checks ≡ Err code
        → collect_of p.rules p.service p.store n lent ≡ record { answer = Err code; service = p.service; store = p.store; lent = lent }
    unfolding collect_of
    refused code e = rw (checks_are (held p.history n) refl, e)

    module _ (fine : checks ≡ Ok tt) where
      all : AllHold tests
      all = all_hold tests fine

      seat : Seated n
      seat = seated n all.0

      all_done : ticks_of p.history n ≡ job.steps
      all_done = let e = eqb-true (steps_left p.history n) 0 all.1.0 in omega (arith, seat.sits.few)

      handed : current_image p.rules p.store seat.at (slot_at p.service seat.at) ≡ alone_after job job.steps
      handed =
          rw seat.sits.is
          (ap (λ d. part (buffer_after p.rules seat.at d) (job.width * job.height) p.store) (let y : job.steps - (job.steps - ticks_of p.history n) ≡ ticks_of p.history n = omega (arith, seat.sits.few) in y)
          ∙ seat.sits.image ∙ ap (alone_after job) all_done)

      result : collect_of p.rules p.service p.store n lent
          ≡ record { answer = Ok (Job n); service = emptied p.service seat.at; store = p.store; lent = alone_after job job.steps }
      unfolding collect_of
      result = rw (checks_are (held p.history n) refl, fine, seat.is, handed)

      accepted : Served p (collect n lent) (Ok (Job n))
      accepted = ended (collect n lent) n seat.at (alone_after job job.steps) (collect_ends n lent) seat.below seat.sits result

    collects_when : (o : Outcome) → checks ≡ o → Served p (collect n lent) (number_unless o n)
    collects_when (Ok done) e = accepted e
    collects_when (Err code) e = refused_call p v (collect n lent) code (refused code e)

    pub collects : Served p (collect n lent) (collect_answer p.history n lent)
    collects = collects_when checks refl

    refused_no_job : (code : ErrorCode) → Err code ≡ Ok (Job n) → ⊥
    refused_no_job code e = let z : ◌≡◌ {A = ℕ} 0 1 = cc in omega arith

    -- an accepted collect: the job is held and finished, and its picture is handed over
    pub hands_over : answer_at p (collect n lent) ≡ Ok (Job n) → (lent_after p (collect n lent) ≡ alone_after job job.steps) × Seated n
    hands_over a = go checks refl
      where
        go : (o : Outcome) → checks ≡ o → (lent_after p (collect n lent) ≡ alone_after job job.steps) × Seated n
        go (Ok done) e = (ap (λ (r : Result). r.lent) (result e), seat e)
        go (Err code) e = absurd (refused_no_job code (sym (ap (λ (r : Result). r.answer) (refused code e)) ∙ a))
