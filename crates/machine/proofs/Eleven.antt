-- Refusal 11 of a submit is exact in the wide definition: of a list of checks, one refuses where those before it pass and it
-- fails, and the kernel's test fails exactly where no nine weights exist. Assumes nothing.
use mathlib.Core.Path.{◌≡◌, refl, sym, ◌∙◌, ap}
use mathlib.Core.Logic.{◌↔◌}
use mathlib.Core.Bool.{Bool, true, false, not, ◌&&◌, true≢false}
use mathlib.Core.List.{List, [], ◌∷◌, ◌++◌}
use Prim.Native.Nat.{ℕ, ◌+◌}
use native.Mathlib.Omega.{arith}
use borrow.Author.Tests.{eq-eqb}
use lib.Dec.{eqb, ltb}
use Rattle.limits.specs.Limits.{steps_in_range}
use Rattle.limits.specs.Errors.{Outcome, Check, ◌otherwise◌, unless, first_refusal, number_of}
use Rattle.limits.specs.declared.ErrorCode.{ErrorCode}
use Rattle.limits.specs.declared.ErrorCode.TheVariants.{RecordOutOfOrder, NoKernel, NoFreeBuffers, NumbersUsedUp}
use Rattle.limits.proofs.Checks.{all_hold, or_else, in_turn, refused_not_accepted}
use Rattle.limits.proofs.Laws.{both_true}
use Rattle.covariance.specs.declared.Shape.{Shape}
use Rattle.covariance.specs.Shapes.{shape_has_kernel}
use Rattle.covariance.proofs.Refusals.{shape_refused_exactly}
use Rattle.machine.specs.declared.Service.{Service}
use Rattle.machine.specs.Rules.{Rules}
use Rattle.machine.specs.Store.{Workable}
use Rattle.machine.specs.Order.{usable}
use Rattle.machine.specs.Calls.{last_number, room_checks, submit_checks}
use Rattle.machine.specs.History.{Event, opened, after, job_count, held_count}
use Rattle.machine.specs.Demand.{number_unless, submit_outcome}
use Rattle.machine.specs.Eleven.{earlier_checks, OnlyNoKernel, ElevenExactly}
use Rattle.machine.proofs.Finds.{submit_answers}
use Rattle.machine.proofs.Theorem.{demand_3_by}
use Rattle.std.specs.Prelude.{Ok, Err}

-- ---- one check of a list
-- no check of a list answers this code
abbrev none_answers : ErrorCode → List Check → Bool
none_answers code [] = true
none_answers code (check ∷ rest) = not (eqb (number_of check.code) (number_of code)) && none_answers code rest

not_answered : (code : ErrorCode) (checks : List Check) → none_answers code checks ≡ true → first_refusal checks ≡ Err code → ⊥
not_answered code [] n e = refused_not_accepted (sym e)
not_answered code (check ∷ rest) n e =
    let b = both_true (not (eqb (number_of check.code) (number_of code))) (none_answers code rest) n in
    go check.holds e (not_answered code rest b.1) b.0
  where
    go : (t : Bool) → unless t (Err check.code) (first_refusal rest) ≡ Err code
        → (first_refusal rest ≡ Err code → ⊥) → not (eqb (number_of check.code) (number_of code)) ≡ true → ⊥
    go true e f b = f e
    go false e f b =
        let same : number_of check.code ≡ number_of code = cc in
        true≢false (sym b ∙ ap not (eq-eqb (number_of check.code) (number_of code) same))

-- a code that no other check of the list answers is answered where the checks before its own pass and its own fails
module _ (code : ErrorCode) (before rest : List Check) (t : Bool)
    (n : none_answers code before ≡ true) (m : none_answers code rest ≡ true) where
  answered_at : (first_refusal (before ++ ((t otherwise code) ∷ rest)) ≡ Err code)
      ↔ ((first_refusal before ≡ Ok tt) × (t ≡ false))
  answered_at =
      let turns = in_turn before ((t otherwise code) ∷ rest) in
      (λ e. only (first_refusal before) t refl (sym turns ∙ e), λ h. turns ∙ rw (h.0, h.1))
    where
      only : (o : Outcome) (t : Bool) → first_refusal before ≡ o
          → or_else o (unless t (Err code) (first_refusal rest)) ≡ Err code → (o ≡ Ok tt) × (t ≡ false)
      only (Ok done) true b e = absurd (not_answered code rest m e)
      only (Ok done) false b e = (refl, refl)
      only (Err other) t b e = absurd (not_answered code before n (b ∙ e))

-- a first check and the others
first_and_rest : (check : Check) (rest : List Check)
    → (first_refusal (check ∷ rest) ≡ Ok tt) ↔ ((check.holds ≡ true) × (first_refusal rest ≡ Ok tt))
first_and_rest check rest = (go check.holds, λ h. rw h.0 h.1)
  where
    go : (t : Bool) → unless t (Err check.code) (first_refusal rest) ≡ Ok tt
        → (t ≡ true) × (first_refusal rest ≡ Ok tt)
    go true e = (refl, e)
    go false e = absurd (refused_not_accepted e)

-- ---- the kernel's test
module _ (shape : Shape) (k w h : ℕ) (pixels : List ℕ) where
  steps_fine : first_refusal (earlier_checks shape k w h pixels) ≡ Ok tt → steps_in_range k ≡ true
  steps_fine e = (all_hold (earlier_checks shape k w h pixels) e).1.1.0

  wide : ((first_refusal (earlier_checks shape k w h pixels) ≡ Ok tt) × (shape_has_kernel shape k ≡ false))
      ↔ OnlyNoKernel shape k w h pixels
  wide = (
    λ a. record { earlier = a.0; no_weights = (shape_refused_exactly shape k (steps_fine a.0)).0 a.1 },
    λ a. (a.earlier, (shape_refused_exactly shape k (steps_fine a.earlier)).1 a.no_weights),
  )

  -- the words of demand 3
  outcome_eleven : (rules : Rules) (es : List Event) → (submit_outcome rules es shape k w h pixels ≡ Err NoKernel) ↔ OnlyNoKernel shape k w h pixels
  outcome_eleven rules es =
      let seats = ltb (held_count es) rules.slot_count otherwise NoFreeBuffers in
      let room = seats ∷ (ltb (job_count es) last_number otherwise NumbersUsedUp) ∷ [] in
      let w = answered_at NoKernel (earlier_checks shape k w h pixels) room (shape_has_kernel shape k) refl refl in
      (λ e. wide.0 (w.0 e), λ o. w.1 (wide.1 o))

  -- the call's checks
  checks_eleven : (rules : Rules) (r : Service) (store : List ℕ)
      → (submit_checks rules r store shape k w h pixels ≡ Err NoKernel) ↔ ((usable rules r store ≡ true) × OnlyNoKernel shape k w h pixels)
  unfolding submit_checks
  checks_eleven rules r store =
      let check = usable rules r store otherwise RecordOutOfOrder in
      let early = earlier_checks shape k w h pixels in
      let at = answered_at NoKernel (check ∷ early) (room_checks rules r) (shape_has_kernel shape k) refl refl in
      let both = first_and_rest check early in (
        λ e. let a = at.0 e in let b = both.0 a.0 in (b.0, wide.0 (b.1, a.1)),
        λ o. let a = wide.1 o.1 in at.1 (both.1 (o.0, a.0), a.1),
      )

-- ---- answers
unless_refused_lem : (o : Outcome) (n : ℕ) (code : ErrorCode) → (number_unless o n ≡ Err code) ↔ (o ≡ Err code)
unless_refused_lem (Ok done) n code = (
  λ e. absurd (let z : ◌≡◌ {A = ℕ} 0 1 = cc in omega arith),
  λ e. absurd (refused_not_accepted (sym e)),
)
unless_refused_lem (Err other) n code = (λ e. cc, λ e. cc)

pub eleven_exactly : (rules : Rules) → Workable rules → ElevenExactly rules
eleven_exactly rules workable =
    record {
      called = λ r store choice shape k w h pixels. (
          let o = submit_checks rules r store shape k w h pixels in
          let a = submit_answers rules workable r store choice shape k w h pixels in
          let u = unless_refused_lem o (r.last + 1) NoKernel in
          let c = checks_eleven shape k w h pixels rules r store in
          (λ e. c.0 (u.0 (sym a ∙ e)), λ e. a ∙ u.1 (c.1 e))
          );
      listed = λ store long entries choice shape k w h pixels. (
          let p = after (opened rules store) entries in
          let es = p.history in
          let a = (demand_3_by rules workable store long entries).submit_answer_is choice shape k w h pixels in
          let u = unless_refused_lem (submit_outcome p.rules es shape k w h pixels) (job_count es + 1) NoKernel in
          let c = outcome_eleven shape k w h pixels p.rules es in
          (λ e. c.0 (u.0 (sym a ∙ e)), λ e. a ∙ u.1 (c.1 e))
          );
    }
