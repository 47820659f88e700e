-- How the words of demand 3 change with one more event. An event touches at most one job; of every other the words stay as
-- they were. Assumes nothing.
use mathlib.Core.Path.{◌≡◌, refl, sym, ◌∙◌, ap}
use mathlib.Core.Bool.{Bool, true, false, cond, ◌&&◌, true≢false}
use mathlib.Core.List.{List, [], ◌∷◌}
use Prim.Native.Nat.{ℕ, zero, suc, ◌+◌, ◌≤◌, ◌<◌}
use native.Mathlib.Omega.{arith}
use borrow.Author.Tests.{eqb-true, eqb-false}
use lib.Dec.{eqb}
use lib.ListN.{length}
use Rattle.machine.specs.Rules.{Rules}
use Rattle.machine.specs.Calls.{Call, submit, tick, collect, withdraw}
use Rattle.machine.specs.History.{Event, accepts, starts, serves, ends, submitted_by, no_job, job_of, held, ticks_of, given_by, numbers, how_many, held_count}
use Rattle.machine.specs.Demand.{countdown}
use Rattle.std.specs.Prelude.{Ok, Err}
use Rattle.machine.specs.declared.Answer.TheVariants.{Job, Idle}
use Rattle.machine.specs.Answers.{Answered}

-- an event that neither starts, serves nor ends the job with this number
pub record Untouched (e : Event) (n : ℕ) : Type 0 where
  pub unstarted : starts e n ≡ false
  pub unserved : serves e n ≡ false
  pub unended : ends e n ≡ false

module _ (e : Event) (es : List Event) (n : ℕ) (u : Untouched e n) where
  pub same_held : held (e ∷ es) n ≡ held es n
  unfolding held
  same_held = rw (u.unstarted, u.unended)

  pub same_job : job_of (e ∷ es) n ≡ job_of es n
  unfolding job_of
  same_job = rw u.unstarted

  pub same_ticks : ticks_of (e ∷ es) n ≡ ticks_of es n
  unfolding ticks_of
  same_ticks = rw (u.unstarted, u.unserved)

-- ---- the event that touches it
pub started_held : (e : Event) (es : List Event) (n : ℕ) → starts e n ≡ true → held (e ∷ es) n ≡ true
unfolding held
started_held e es n s = rw s

pub started_job : (e : Event) (es : List Event) (n : ℕ) → starts e n ≡ true → job_of (e ∷ es) n ≡ submitted_by e.rules e.call no_job
unfolding job_of
started_job e es n s = rw s

pub started_ticks : (e : Event) (es : List Event) (n : ℕ) → starts e n ≡ true → ticks_of (e ∷ es) n ≡ 0
unfolding ticks_of
started_ticks e es n s = rw s

pub ended_held : (e : Event) (es : List Event) (n : ℕ) → starts e n ≡ false → ends e n ≡ true → held (e ∷ es) n ≡ false
unfolding held
ended_held e es n s t = rw (s, t)

pub served_ticks : (e : Event) (es : List Event) (n : ℕ) → starts e n ≡ false → serves e n ≡ true → ticks_of (e ∷ es) n ≡ ticks_of es n + 1
unfolding ticks_of
served_ticks e es n s t = rw (s, t)

-- a job that is not started again keeps what it was, and its ticks only grow
pub kept_job : (e : Event) (es : List Event) (n : ℕ) → starts e n ≡ false → job_of (e ∷ es) n ≡ job_of es n
unfolding job_of
kept_job e es n s = rw s

pub more_ticks : (e : Event) (es : List Event) (n : ℕ) → starts e n ≡ false → ticks_of es n ≤ ticks_of (e ∷ es) n
unfolding ticks_of
more_ticks e es n s = rw s (go (serves e n))
  where
    go : (t : Bool) → ticks_of es n ≤ cond t (ticks_of es n + 1) (ticks_of es n)
    go true = omega arith
    go false = omega arith

pub kept_held : (e : Event) (es : List Event) (n : ℕ) → starts e n ≡ false → ends e n ≡ false → held (e ∷ es) n ≡ held es n
unfolding held
kept_held e es n s t = rw (s, t)

-- ---- counts of numbers
pub many_same : (p q : ℕ → Bool) (k : ℕ) → ((n : ℕ) → 0 < n → n ≤ k → p n ≡ q n) → how_many p (countdown k) ≡ how_many q (countdown k)
unfolding how_many
many_same p q zero f = refl
many_same p q (suc k) f = rw (f (suc k) (omega arith) (omega arith), many_same p q k (λ n h l. f n h (omega arith)))

-- a test that fails at one number more passes one fewer
pub many_less : (p q : ℕ → Bool) (m k : ℕ) → 0 < m → m ≤ k → p m ≡ true → q m ≡ false → ((n : ℕ) → (n ≡ m → ⊥) → p n ≡ q n)
    → how_many p (countdown k) ≡ how_many q (countdown k) + 1
unfolding how_many
many_less p q m zero h l a b f = absurd (omega arith)
many_less p q m (suc k) h l a b f = go (eqb m (suc k)) refl (many_less p q m k h)
  where
    bump : (t : Bool) (x y : ℕ) → x ≡ y + 1 → cond t (x + 1) x ≡ cond t (y + 1) y + 1
    bump true x y e = omega arith
    bump false x y e = e

    go : (t : Bool) → eqb m (suc k) ≡ t
        → (m ≤ k → p m ≡ true → q m ≡ false → ((n : ℕ) → (n ≡ m → ⊥) → p n ≡ q n) → how_many p (countdown k) ≡ how_many q (countdown k) + 1)
        → cond (p (suc k)) (how_many p (countdown k) + 1) (how_many p (countdown k)) ≡ cond (q (suc k)) (how_many q (countdown k) + 1) (how_many q (countdown k)) + 1
    go true e r =
        let w = eqb-true m (suc k) e in
        rw (← w, a, b) (ap (λ x. x + 1) (many_same p q k (λ n g i. f n (λ x. omega arith))))
    go false e r =
        let w = eqb-false m (suc k) e in
        rw (f (suc k) (λ x. w (sym x))) (bump (q (suc k)) (how_many p (countdown k)) (how_many q (countdown k)) (r (omega arith) a b f))

pub length_countdown : (k : ℕ) → length (countdown k) ≡ k
length_countdown zero = refl
length_countdown (suc k) = ap suc (length_countdown k)

-- ---- an event that accepts nothing touches no job
and_false : (t : Bool) → t && false ≡ false
and_false true = refl
and_false false = refl

touches_none : (rules : Rules) (c : Call) (a : Answered) (lent : List ℕ) → accepts a ≡ false → (n : ℕ)
    → Untouched (record { rules = rules; call = c; answer = a; lent = lent }) n
touches_none rules c (Ok (Job m)) lent h n = absurd (true≢false h)
touches_none rules (submit choice shape k w y pixels) (Ok Idle) lent h n = record { unstarted = refl; unserved = refl; unended = refl }
touches_none rules tick (Ok Idle) lent h n = record { unstarted = refl; unserved = refl; unended = refl }
touches_none rules (collect m mine) (Ok Idle) lent h n = record { unstarted = refl; unserved = refl; unended = and_false (eqb m n) }
touches_none rules (withdraw m) (Ok Idle) lent h n = record { unstarted = refl; unserved = refl; unended = and_false (eqb m n) }
touches_none rules (submit choice shape k w y pixels) (Err code) lent h n = record { unstarted = refl; unserved = refl; unended = refl }
touches_none rules tick (Err code) lent h n = record { unstarted = refl; unserved = refl; unended = refl }
touches_none rules (collect m mine) (Err code) lent h n = record { unstarted = refl; unserved = refl; unended = and_false (eqb m n) }
touches_none rules (withdraw m) (Err code) lent h n = record { unstarted = refl; unserved = refl; unended = and_false (eqb m n) }

pub untouched_by : (e : Event) → accepts e.answer ≡ false → (n : ℕ) → Untouched e n
untouched_by e h n = touches_none e.rules e.call e.answer e.lent h n

gives_none : (c : Call) (a : Answered) (ns : List ℕ) → accepts a ≡ false → given_by c a ns ≡ ns
gives_none c (Ok (Job m)) ns h = absurd (true≢false h)
gives_none (submit choice shape k w y pixels) (Ok Idle) ns h = refl
gives_none tick (Ok Idle) ns h = refl
gives_none (collect m mine) (Ok Idle) ns h = refl
gives_none (withdraw m) (Ok Idle) ns h = refl
gives_none (submit choice shape k w y pixels) (Err code) ns h = refl
gives_none tick (Err code) ns h = refl
gives_none (collect m mine) (Err code) ns h = refl
gives_none (withdraw m) (Err code) ns h = refl

pub same_numbers : (e : Event) (es : List Event) → accepts e.answer ≡ false → numbers (e ∷ es) ≡ numbers es
unfolding numbers
same_numbers e es h = gives_none e.call e.answer (numbers es) h

pub many_ext : (p q : ℕ → Bool) (ns : List ℕ) → ((n : ℕ) → p n ≡ q n) → how_many p ns ≡ how_many q ns
unfolding how_many
many_ext p q [] f = refl
many_ext p q (n ∷ ns) f = rw (f n, many_ext p q ns f)

pub same_held_count : (e : Event) (es : List Event) → accepts e.answer ≡ false → held_count (e ∷ es) ≡ held_count es
same_held_count e es h =
    ap (how_many (held (e ∷ es))) (same_numbers e es h)
    ∙ many_ext (held (e ∷ es)) (held es) (numbers es) (λ n. same_held e es n (untouched_by e h n))
