-- S-3: "Its jobs finish with the pixels they would have had before, and turn order and job numbers carry on", of single calls at every
-- old record in order and every store, whether a list of calls leads there or not. Definitions only; `proofs/Commutes` shows it.
use Rattle.std.specs.Prelude.{◌≡◌, List, ℕ, length, Ok}
use Rattle.kernel.specs.declared.Choice.TheVariants.{Smallest}
use Rattle.machine.specs.declared.Service.{Service}
use Rattle.machine.specs.Rules.{Rules, with_choice}
use Rattle.machine.specs.Calls.{Result, Call, submit, tick, collect, withdraw, call_of, free_count_of}
use Rattle.machine.specs.Change.{changed_over, change_checks}

-- what a call left behind, with its record changed over
abbrev pub result_changed : Result → Result
result_changed x = record { answer = x.answer; service = changed_over x.service; store = x.store; lent = x.lent }

-- the same call by the new rules: a submit names smallest, since one by the old rules has no other choice
abbrev pub naming_smallest : Call → Call
naming_smallest (submit choice shape k w h pixels) = submit Smallest shape k w h pixels
naming_smallest tick = tick
naming_smallest (collect n lent) = collect n lent
naming_smallest (withdraw n) = withdraw n

-- a call by the old rules and the change-over after it, and the change-over and the call by the new rules after it
pub record Commutes (rules : Rules) (r : Service) (store : List ℕ) (c : Call) : Type 0 where
  -- whatever the call did, the change-over is accepted after it
  pub accepted_after : change_checks rules (call_of rules r store c).service ≡ Ok tt
  -- same answer, record, store and picture
  pub same : call_of (with_choice rules) (changed_over r) store (naming_smallest c) ≡ result_changed (call_of rules r store c)

-- at every record that the change-over takes, and every store of whatever length; and the free count answers the same before and after
pub record ChangeCommutes (rules : Rules) (r : Service) : Type 0 where
  pub calls : (store : List ℕ) (c : Call) → Commutes rules r store c
  pub counts : free_count_of (with_choice rules) (changed_over r) ≡ free_count_of rules r

-- of as many slots as the rules have, which the type of a record in code says
abbrev pub EveryChangeCommutes : Rules → Type 0
EveryChangeCommutes rules = (r : Service) → length r.slots ≡ rules.slot_count → change_checks rules r ≡ Ok tt → ChangeCommutes rules r
