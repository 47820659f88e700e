-- A submit, a collect or a withdraw whose checks passed finds its slot, at any record and any store: the cases of specs/Calls in
-- which they find none cannot occur. So each answers its number exactly where its checks pass. Assumes nothing.
use mathlib.Core.Path.{◌≡◌, refl, sym, ◌∙◌}
use mathlib.Core.Bool.{true, not, true≢false}
use mathlib.Core.List.{List, [], ◌∷◌}
use Prim.Native.Nat.{ℕ, ◌+◌}
use borrow.Author.Tests.{ltb-true}
use lib.Dec.{leb}
use lib.ListN.{length}
use Rattle.limits.specs.Errors.{Outcome, ◌otherwise◌}
use Rattle.limits.specs.declared.ErrorCode.TheVariants.{RecordOutOfOrder, NoSuchJob}
use Rattle.limits.proofs.Checks.{all_hold}
use Rattle.kernel.specs.declared.Choice.{Choice}
use Rattle.covariance.specs.declared.Shape.{Shape}
use Rattle.machine.specs.declared.Service.{Service}
use Rattle.machine.specs.Rules.{Rules}
use Rattle.machine.specs.Slots.{is_empty, count_of}
use Rattle.machine.specs.Store.{Workable}
use Rattle.machine.specs.Order.{in_order, usable}
use Rattle.machine.specs.Calls.{free_buffers, submitted_checks, room_checks, submit_checks, submit_at, unless_refused, submit_of, empty_place, place_of, is_found, slot_found, hand_over_checks, collect_checks, collect_at, collect_of, withdraw_checks, withdraw_at, withdraw_of}
use Rattle.machine.specs.Demand.{number_unless}
use Rattle.machine.proofs.Rules.{free_test}
use Rattle.machine.proofs.Orderly.{empty_there}
use Rattle.std.specs.Prelude.{Option, Some, None, Ok, Err}

module _ (rules : Rules) (workable : Workable rules) (r : Service) (store : List ℕ) where
  -- ---- submit: a slot's buffers are free, so a slot is empty
  room : leb rules.buffers_per_slot (free_buffers rules r) ≡ true → (i : ℕ) × (empty_place rules r ≡ Some i)
  unfolding free_buffers
  room free =
      let filled = count_of (λ s. not (is_empty s)) r.slots rules.slot_count in
      empty_there rules workable r (ltb-true filled rules.slot_count (sym (free_test rules workable filled) ∙ free))

  pub submit_finds : (shape : Shape) (k w h : ℕ) (pixels : List ℕ) → submit_checks rules r store shape k w h pixels ≡ Ok tt
      → (i : ℕ) × (empty_place rules r ≡ Some i)
  unfolding submit_checks
  submit_finds shape k w h pixels e =
      let all = all_hold ((usable rules r store otherwise RecordOutOfOrder) ∷ submitted_checks shape k w h pixels (room_checks rules r)) e in
      room all.1.1.1.1.1.1.1.1.0

  -- ---- collect and withdraw: refusal 7 is checked
  is_found_lem : (f : Option ℕ) → is_found f ≡ true → (i : ℕ) × (f ≡ Some i)
  is_found_lem (Some i) e = (i, refl)
  is_found_lem None e = absurd (true≢false (sym e))

  pub collect_finds : (n : ℕ) (lent : List ℕ) → collect_checks rules r store n lent ≡ Ok tt → (i : ℕ) × (place_of rules r n ≡ Some i)
  unfolding collect_checks
  collect_finds n lent e =
      is_found_lem (place_of rules r n)
      (all_hold
      ((usable rules r store otherwise RecordOutOfOrder)
      ∷ (is_found (place_of rules r n) otherwise NoSuchJob)
      ∷ hand_over_checks (slot_found r (place_of rules r n)) (length lent)) e).1.0

  pub withdraw_finds : (n : ℕ) → withdraw_checks rules r n ≡ Ok tt → (i : ℕ) × (place_of rules r n ≡ Some i)
  withdraw_finds n e =
      is_found_lem (place_of rules r n)
      (all_hold ((in_order rules r otherwise RecordOutOfOrder) ∷ (is_found (place_of rules r n) otherwise NoSuchJob) ∷ []) e).1.0

  -- ---- what each answers
  pub submit_answers : (choice : Choice) (shape : Shape) (k w h : ℕ) (pixels : List ℕ)
      → (submit_of rules r store choice shape k w h pixels).answer ≡ number_unless (submit_checks rules r store shape k w h pixels) (r.last + 1)
  unfolding submit_of
  submit_answers choice shape k w h pixels = go (submit_checks rules r store shape k w h pixels) (submit_finds shape k w h pixels)
    where
      go : (o : Outcome) → (o ≡ Ok tt → (i : ℕ) × (empty_place rules r ≡ Some i))
          → (unless_refused o r store pixels (submit_at rules r store choice shape k w h pixels (empty_place rules r))).answer
          ≡ number_unless o (r.last + 1)
      go (Ok done) f = rw (f refl).1
      go (Err code) f = refl

  pub collect_answers : (n : ℕ) (lent : List ℕ) → (collect_of rules r store n lent).answer ≡ number_unless (collect_checks rules r store n lent) n
  unfolding collect_of
  collect_answers n lent = go (collect_checks rules r store n lent) (collect_finds n lent)
    where
      go : (o : Outcome) → (o ≡ Ok tt → (i : ℕ) × (place_of rules r n ≡ Some i))
          → (unless_refused o r store lent (collect_at rules r store n lent (place_of rules r n))).answer ≡ number_unless o n
      go (Ok done) f = rw (f refl).1
      go (Err code) f = refl

  pub withdraw_answers : (n : ℕ) → (withdraw_of rules r store n).answer ≡ number_unless (withdraw_checks rules r n) n
  unfolding withdraw_of
  withdraw_answers n = go (withdraw_checks rules r n) (withdraw_finds n)
    where
      go : (o : Outcome) → (o ≡ Ok tt → (i : ℕ) × (place_of rules r n ≡ Some i))
          → (unless_refused o r store [] (withdraw_at r store n (place_of rules r n))).answer ≡ number_unless o n
      go (Ok done) f = rw (f refl).1
      go (Err code) f = refl
