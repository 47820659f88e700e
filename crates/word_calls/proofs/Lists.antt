-- Demand 3 of lists of exported calls: from an opening on the words hold the state machine's record, the store is the machine's, and what the
-- caller sees of each call is what the machine answers there; by the earlier release's rules or this library's, and through the exported
-- change-over. Assumes nothing.
use mathlib.Core.Path.{◌≡◌, refl, sym, ◌∙◌, ap, subst}
use mathlib.Core.Bool.{Bool, true, false, not, cond, true≢false}
use mathlib.Core.List.{List, [], ◌∷◌, ◌++◌, append_assoc, append-nil}
use Prim.Native.Nat.{ℕ, zero, suc, ◌-◌, ◌*◌}
use native.Mathlib.Omega.{arith}
use borrow.Author.Tests.{eq-eqb, eqb-true}
use lib.Dec.{eqb}
use lib.ListN.{length}
use Rattle.limits.specs.Errors.{first_refusal, ◌otherwise◌, value_or, outcome_number}
use Rattle.limits.specs.declared.ErrorCode.TheVariants.{RecordOutOfOrder, NoSuchJob, WrongLength}
use Rattle.kernel.specs.declared.Choice.{Choice}
use Rattle.covariance.specs.declared.Shape.{Shape}
use Rattle.machine.specs.declared.Service.{Service}
use Rattle.machine.specs.Rules.{Rules, base_rules, choice_rules, current_rules}
use Rattle.machine.specs.Slots.{opening}
use Rattle.machine.specs.Store.{buffer_count, store_length, Workable}
use Rattle.machine.specs.Order.{in_order, usable}
use Rattle.machine.specs.Answers.{answer_number, count_number, count_values}
use Rattle.machine.specs.Calls.{Call, submit, tick, collect, withdraw, Result, call_of, unless_refused, submit_checks, submit_at, empty_place, submit_of, tick_at, served_place, tick_of, collect_checks, collect_at, collect_of, withdraw_at, withdraw_of, place_of, is_found}
use Rattle.machine.specs.Change.{changed_over, change_checks}
use Rattle.machine.specs.History.{Event, Place, Entry, changing, opened, next, event_of, changed_place, onward, after, events_of, since, accepts, held_count}
use Rattle.machine.specs.Demand.{answer_at, lent_to, Opening, by_base, by_choice}
use Rattle.machine.proofs.Invariant.{Invariant, in_order_lem}
use Rattle.machine.proofs.Changes.{change_is, change_keeps}
use Rattle.machine.proofs.Lists.{answers, next_invariant, opened_invariant}
use Rattle.machine.proofs.Theorem.{at_place, opening_workable}
use Rattle.record_words.specs.Words.{word_count, fields_fit, service_of, with_service}
use Rattle.record_words.proofs.Laws.{fit_length}
use Rattle.record_words.proofs.ReadBack.{Fits, read_back, written_fits}
use Rattle.word_calls.specs.Exported.{Exported, number_after, words_after, exported_of, through_words, opening_words, count_words, old_fine, change_word_checks, change_code, changed_unless}
use Rattle.word_calls.specs.Lists.{ExportedCall, answer_seen, leaving, exported_call, exported_at, event_seen, Kept, kept_after, ExportedEntry, calls, changes, kept_changed, kept_onward, kept_through, events_seen, seen_since, kept_at_opening, entry_of, entries_of, place_seen, change_expected, AtExportedPlace, ExportedDemand3}
use Rattle.word_calls.proofs.Held.{Holds, Carried, after_answer}
use Rattle.word_calls.proofs.Fields.{record_fits}
use Rattle.word_calls.proofs.Seen.{answer_told, some_job}
use Rattle.word_calls.proofs.Laws.{count_fit}
use Rattle.std.specs.Prelude.{Option, Some, None, Ok, Err}
use Rattle.limits.specs.Errors.{Outcome}
use Rattle.machine.specs.declared.Answer.TheVariants.{Job, Idle}
use Rattle.machine.specs.Answers.{Answered, FreeCount}

-- ---- what a call of the state machine leaves as it was: a submit the lent picture, a collect the store
module _ (rules : Rules) (r : Service) (store lent : List ℕ) where
  submit_reads : (o : Outcome) (f : Option ℕ) (choice : Choice) (shape : Shape) (k w h : ℕ)
      → (unless_refused o r store lent (submit_at rules r store choice shape k w h lent f)).lent ≡ lent
  submit_reads (Ok done) (Some i) choice shape k w h = refl
  submit_reads (Ok done) None choice shape k w h = refl
  submit_reads (Err code) f choice shape k w h = refl

  tick_reads : (o : Outcome) (f : Option ℕ) → (unless_refused o r store [] (tick_at rules r store f)).lent ≡ []
  tick_reads (Ok done) (Some i) = refl
  tick_reads (Ok done) None = refl
  tick_reads (Err code) f = refl

  collect_reads : (o : Outcome) (f : Option ℕ) (n : ℕ) → (unless_refused o r store lent (collect_at rules r store n lent f)).store ≡ store
  collect_reads (Ok done) (Some i) n = refl
  collect_reads (Ok done) None n = refl
  collect_reads (Err code) f n = refl

  -- a withdraw reads no pixel and changes none
  withdraw_reads : (o : Outcome) (f : Option ℕ) (n : ℕ) (other : List ℕ)
      → unless_refused o r store [] (withdraw_at r store n f)
      ≡ record {
        answer = (unless_refused o r other [] (withdraw_at r other n f)).answer;
        service = (unless_refused o r other [] (withdraw_at r other n f)).service;
        store = store;
        lent = [];
      }
  withdraw_reads (Ok done) (Some i) n other = refl
  withdraw_reads (Ok done) None n other = refl
  withdraw_reads (Err code) f n other = refl

-- ---- one exported call
-- where the words hold a record, the call is made on it
through : (rules : Rules) (call : Service → Result) (words : List ℕ) (old : ℕ) (store lent : List ℕ) → fields_fit rules words ≡ true
    → through_words rules call words old store lent ≡ exported_of rules words old (call (service_of rules words))
unfolding through_words
through rules call words old store lent fit = rw fit

-- an exported call on words that hold a record leaves what the machine's call on that record leaves
same_call : (rules : Rules) (words : List ℕ) (old : ℕ) (store : List ℕ) (c : Call) → fields_fit rules words ≡ true
    → exported_call rules c words old store ≡ exported_of rules words old (call_of rules (service_of rules words) store c)
unfolding submit_of tick_of collect_of withdraw_of
same_call rules words old store (submit choice shape k w h pixels) fit =
    let r = service_of rules words in
    let m = call_of rules r store (submit choice shape k w h pixels) in
    rw (through rules (λ r. submit_of rules r store choice shape k w h pixels) words old store pixels fit)
    (ap (λ (l : List ℕ). leaving (exported_of rules words old m) m.store l)
    (sym (submit_reads rules r store pixels (submit_checks rules r store shape k w h pixels) (empty_place rules r) choice shape k w h)))
same_call rules words old store tick fit =
    let r = service_of rules words in
    let m = call_of rules r store tick in
    rw (through rules (λ r. tick_of rules r store) words old store [] fit)
    (ap (λ (l : List ℕ). leaving (exported_of rules words old m) m.store l)
    (sym (tick_reads rules r store [] (first_refusal ((usable rules r store otherwise RecordOutOfOrder) ∷ [])) (served_place rules r))))
same_call rules words old store (collect n lent) fit =
    let r = service_of rules words in
    let m = call_of rules r store (collect n lent) in
    rw (through rules (λ r. collect_of rules r store n lent) words old store lent fit)
    (ap (λ (l : List ℕ). leaving (exported_of rules words old m) l m.lent)
    (sym (collect_reads rules r store lent (collect_checks rules r store n lent) (place_of rules r n) n)))
same_call rules words old store (withdraw n) fit =
    let r = service_of rules words in
    rw (through rules (λ r. withdraw_of rules r [] n) words old [] [] fit)
    (ap (λ (m : Result). exported_of rules words old m)
    (sym (withdraw_reads rules r store []
    (first_refusal ((in_order rules r otherwise RecordOutOfOrder) ∷ (is_found (place_of rules r n) otherwise NoSuchJob) ∷ [])) (place_of rules r n) n [])))

-- what the machine's record becomes fits its words, or it stays
carried : (p : Place) → Invariant p → (c : Call) → Carried p.rules (answer_at p c) p.service (next p c).service
carried p v c = go (answer_at p c) refl
  where
    go : (a : Answered) → answer_at p c ≡ a → Carried p.rules a p.service (next p c).service
    go (Ok (Job n)) e = record_fits (next p c) (next_invariant p v c)
    go (Ok Idle) e = ((answers p v c).1.unchanged (rw e)).0
    go (Err code) e = ((answers p v c).1.unchanged (rw e)).0

-- what a caller has at each place: words that hold a record, and the machine's invariant of it, its store and what was seen
record Sound (k : Kept) : Type 0 where
  opening : Opening k.rules
  fit : fields_fit k.rules k.words ≡ true
  invariant : Invariant (place_seen k)

module _ (k : Kept) (s : Sound k) where
  abbrev p : Place
  p = place_seen k

  at : (c : ExportedCall) → exported_at k c ≡ exported_of k.rules k.words c.number (call_of k.rules p.service p.store c.call)
  at c = same_call k.rules k.words c.number k.store c.call s.fit

  holds_next : (c : ExportedCall) → Holds k.rules (kept_after k c).words (next p c.call).service
  holds_next c =
      rw (at c)
      (after_answer k.rules (answer_at p c.call) p.service (next p c.call).service k.words
      (record { fit = s.fit; held = refl }) (carried p s.invariant c.call))

  seen : (c : ExportedCall) → answer_seen (exported_at k c).code (exported_at k c).number ≡ answer_at p c.call
  seen c = rw (at c) (answer_told (answer_at p c.call) c.number (some_job p s.invariant c.call))

  next_event : (c : ExportedCall) → event_seen k c ≡ event_of p c.call
  next_event c = rw (seen c, ap (λ (e : Exported). e.lent) (at c))

  next_place : (c : ExportedCall) → place_seen (kept_after k c) ≡ next p c.call
  next_place c = rw ((holds_next c).held, next_event c, ap (λ (e : Exported). e.store) (at c))

  next_sound : (c : ExportedCall) → Sound (kept_after k c)
  next_sound c =
      record {
        opening = s.opening;
        fit = (holds_next c).fit;
        invariant = subst (λ (q : Place). Invariant q) (sym (next_place c)) (next_invariant p s.invariant c.call);
      }

  -- a refusal is told by its code, and idle by the number 0: each leaves everything as it was
  kept_by : (c : ExportedCall) → accepts (answer_at p c.call) ≡ false
      → exported_at k c
      ≡ record {
        code = answer_number (answer_at p c.call);
        words = k.words;
        number = number_after (answer_at p c.call) c.number;
        store = k.store;
        lent = lent_to c.call;
      }
  kept_by c e =
      let u = (answers p s.invariant c.call).1.unchanged e in
      at c ∙ go (call_of k.rules p.service p.store c.call) e u.1 u.2
    where
      go : (m : Result) → accepts m.answer ≡ false → m.store ≡ k.store → m.lent ≡ lent_to c.call
          → exported_of k.rules k.words c.number m
          ≡ record {
            code = answer_number m.answer;
            words = k.words;
            number = number_after m.answer c.number;
            store = k.store;
            lent = lent_to c.call;
          }
      go m a f g = rw (f, g, unwritten m.answer a)
        where
          unwritten : (a : Answered) → accepts a ≡ false → words_after k.rules a m.service k.words ≡ k.words
          unwritten (Ok (Job n)) a = absurd (true≢false a)
          unwritten (Ok Idle) a = refl
          unwritten (Err code) a = refl

  code_at : (c : ExportedCall) → (exported_at k c).code ≡ answer_number (answer_at p c.call)
  code_at c = ap (λ (e : Exported). e.code) (at c)

  number_at_lem : (c : ExportedCall) → (exported_at k c).number ≡ number_after (answer_at p c.call) c.number
  number_at_lem c = ap (λ (e : Exported). e.number) (at c)

  refused_at : (c : ExportedCall) → ((exported_at k c).code ≡ 0 → ⊥)
      → exported_at k c
      ≡ record { code = (exported_at k c).code; words = k.words; number = c.number; store = k.store; lent = lent_to c.call }
  refused_at c some = rw (code_at c) (go (answer_at p c.call) refl)
    where
      go : (a : Answered) → answer_at p c.call ≡ a
          → exported_at k c
          ≡ record {
            code = answer_number (answer_at p c.call);
            words = k.words;
            number = c.number;
            store = k.store;
            lent = lent_to c.call;
          }
      go (Ok (Job n)) e = absurd (some (code_at c ∙ ap answer_number e))
      go (Ok Idle) e = absurd (some (code_at c ∙ ap answer_number e))
      go (Err code) e = kept_by c (ap accepts e) ∙ rw e

  idle_at : (c : ExportedCall) → (exported_at k c).code ≡ 0 → (exported_at k c).number ≡ 0
      → exported_at k c ≡ record { code = 0; words = k.words; number = 0; store = k.store; lent = lent_to c.call }
  unfolding answer_seen
  idle_at c z n =
      let e : answer_at p c.call ≡ Ok Idle = sym (seen c) ∙ rw (z, n) in
      kept_by c (ap accepts e) ∙ rw e

  counted : count_words k.rules k.words ≡ Ok (buffer_count k.rules - k.rules.buffers_per_slot * held_count k.history)
  counted = count_fit k.rules k.words s.fit p.service refl ∙ (at_place p s.invariant).free_buffers_are

-- ---- the exported change-over
-- words that hold a record of the old rules are taken where it is in order, and those of the new ones are too many
too_many : (words : List ℕ) → fields_fit choice_rules words ≡ true → (t : Bool) → eqb (length words) (word_count base_rules) ≡ t → fields_fit base_rules words ≡ false
unfolding fields_fit
too_many words fit true e = absurd (let a = eqb-true (length words) (word_count base_rules) e in let b = fit_length choice_rules words fit in omega arith)
too_many words fit false e = rw e

old_fine_lem : (rules : Rules) → Opening rules → (words : List ℕ) → fields_fit rules words ≡ true → in_order rules (service_of rules words) ≡ true
    → old_fine words ≡ not rules.holds_choice
unfolding old_fine
old_fine_lem base_rules by_base words fit ordered = rw (fit, ordered)
old_fine_lem choice_rules by_choice words fit ordered = rw (too_many words fit (eqb (length words) (word_count base_rules)) refl)

-- what the change-over makes of what a caller keeps
record Changed (k : Kept) (lent : List ℕ) : Type 0 where
  place : place_seen (kept_onward k (changes lent)) ≡ after (place_seen k) (entry_of (changes lent))
  sound : Sound (kept_onward k (changes lent))

module _ (k : Kept) (s : Sound k) (lent : List ℕ) where
  checked : change_word_checks k.words (length lent) ≡ change_expected k.rules lent
  unfolding change_word_checks
  checked = rw (old_fine_lem k.rules s.opening k.words s.fit (in_order_lem (place_seen k) s.invariant))

  change_coded : change_code k.words lent ≡ outcome_number (change_expected k.rules lent)
  change_coded = ap outcome_number checked

  -- ---- refused: nothing changes, and in the machine's list stands nothing, or a change-over that is refused
  kept_same : (code : ℕ) → (code ≡ 0 → ⊥) → kept_changed code k lent ≡ k
  kept_same zero some = absurd (some refl)
  kept_same (suc code) some = refl

  stays : (change_code k.words lent ≡ 0 → ⊥) → after (place_seen k) (entry_of (changes lent)) ≡ place_seen k → Changed k lent
  stays some same =
      let q = kept_same (change_code k.words lent) some in
      record { place = ap place_seen q ∙ sym same; sound = subst (λ (x : Kept). Sound x) (sym q) s }

  abbrev coded : Bool → Bool → ℕ
  coded old enough = outcome_number (first_refusal ((old otherwise RecordOutOfOrder) ∷ (enough otherwise WrongLength) ∷ []))

  other_length : eqb (length lent) (word_count current_rules) ≡ false → Changed k lent
  unfolding after
  other_length e = stays (λ z. some (not k.rules.holds_choice) (sym (change_coded ∙ ap (coded (not k.rules.holds_choice)) e) ∙ z)) (rw e)
    where
      some : (old : Bool) → coded old false ≡ 0 → ⊥
      some true z = omega arith
      some false z = omega arith

  made_already : k.rules.holds_choice ≡ true → eqb (length lent) (word_count current_rules) ≡ true → Changed k lent
  unfolding after
  made_already h e =
      let p = place_seen k in
      let refused = change_is p s.invariant ∙ ap (λ (t : Bool). first_refusal ((not t otherwise RecordOutOfOrder) ∷ [])) h in
      stays (λ z. let two = sym (change_coded ∙ ap (λ (t : Bool). coded (not t) (eqb (length lent) (word_count current_rules))) h) ∙ z in omega arith)
      (rw e (ap (λ (o : Outcome). changed_place o p) refused))

-- ---- accepted: the words that it wrote hold the changed record
module _ (words store : List ℕ) (history : List Event) where
  abbrev old : Kept
  old = record { rules = base_rules; words = words; store = store; history = history }

  module _ (s : Sound old) (lent : List ℕ) (enough : eqb (length lent) (word_count current_rules) ≡ true) where
    abbrev was : Place
    was = place_seen old

    abbrev becomes : Service
    becomes = changed_over (service_of base_rules words)

    abbrev new : Kept
    new = record { rules = choice_rules; words = with_service current_rules becomes lent; store = store; history = history }

    accepted : change_checks base_rules was.service ≡ Ok tt
    accepted = change_is was s.invariant

    next_invariant_on : Invariant (changed_place (Ok tt) was)
    next_invariant_on = subst (λ (o : Outcome). Invariant (changed_place o was)) accepted (change_keeps was s.invariant)

    fits : Fits current_rules becomes
    fits = record_fits (changed_place (Ok tt) was) next_invariant_on

    long : length lent ≡ word_count current_rules
    long = eqb-true (length lent) (word_count current_rules) enough

    checks : change_word_checks words (length lent) ≡ Ok tt
    checks = checked old s lent ∙ rw enough

    kept_is : kept_onward old (changes lent) ≡ new
    kept_is =
        ap (λ (code : ℕ). kept_changed code old lent) (ap outcome_number checks)
        ∙ ap (λ (o : Outcome). record { rules = choice_rules; words = changed_unless o words lent; store = store; history = history }) checks

    place_is : place_seen new ≡ changed_place (Ok tt) was
    place_is = rw (read_back current_rules becomes lent long fits)

    taken : Changed old lent
    unfolding after
    taken =
        record {
          place = ap place_seen kept_is ∙ place_is ∙ rw enough (ap (λ (o : Outcome). changed_place o was) (sym accepted));
          sound =
              subst (λ (x : Kept). Sound x) (sym kept_is)
              (record {
                opening = by_choice;
                fit = written_fits current_rules becomes lent long fits;
                invariant = subst (λ (q : Place). Invariant q) (sym place_is) next_invariant_on;
              });
        }

changed_by_lem : (rules : Rules) → Opening rules → (words store : List ℕ) (history : List Event)
    → Sound (record { rules = rules; words = words; store = store; history = history }) → (lent : List ℕ)
    → (t : Bool) → eqb (length lent) (word_count current_rules) ≡ t → Changed (record { rules = rules; words = words; store = store; history = history }) lent
changed_by_lem base_rules by_base words store history s lent true e = taken words store history s lent e
changed_by_lem base_rules by_base words store history s lent false e = other_length (record { rules = base_rules; words = words; store = store; history = history }) s lent e
changed_by_lem choice_rules by_choice words store history s lent true e = made_already (record { rules = choice_rules; words = words; store = store; history = history }) s lent refl e
changed_by_lem choice_rules by_choice words store history s lent false e = other_length (record { rules = choice_rules; words = words; store = store; history = history }) s lent e

-- ---- one entry of a list
module _ (k : Kept) (s : Sound k) where
  onward_sound : (e : ExportedEntry) → Sound (kept_onward k e)
  onward_sound (calls c) = next_sound k s c
  onward_sound (changes lent) = (changed_by_lem k.rules s.opening k.words k.store k.history s lent (eqb (length lent) (word_count current_rules)) refl).sound

  onward_place : (e : ExportedEntry) → place_seen (kept_onward k e) ≡ after (place_seen k) (entry_of e)
  unfolding after
  onward_place (calls c) = next_place k s c
  onward_place (changes lent) = (changed_by_lem k.rules s.opening k.words k.store k.history s lent (eqb (length lent) (word_count current_rules)) refl).place

  onward_seen : (e : ExportedEntry) → events_seen k e ≡ since (place_seen k) (entry_of e)
  unfolding since
  onward_seen (calls c) = ap (λ (x : Event). x ∷ []) (next_event k s c)
  onward_seen (changes lent) = go (eqb (length lent) (word_count current_rules))
    where
      go : (t : Bool) → [] ≡ since (place_seen k) (cond t (changing ∷ []) [])
      go true = refl
      go false = refl

-- ---- lists
after_both : (xs ys : List Entry) (p : Place) → after p (xs ++ ys) ≡ after (after p xs) ys
unfolding after
after_both [] ys p = refl
after_both (x ∷ xs) ys p = after_both xs ys (onward p x)

since_both : (xs ys : List Entry) (p : Place) → since p (xs ++ ys) ≡ since (after p xs) ys ++ since p xs
unfolding after since
since_both [] ys p = sym (append-nil (since p ys))
since_both (x ∷ xs) ys p = rw (since_both xs ys (onward p x)) (append_assoc (since (after (onward p x) xs) ys) (since (onward p x) xs) (events_of p x))

through_place : (es : List ExportedEntry) (k : Kept) → Sound k → place_seen (kept_through k es) ≡ after (place_seen k) (entries_of es)
unfolding kept_through after entries_of
through_place [] k s = refl
through_place (e ∷ es) k s =
    through_place es (kept_onward k e) (onward_sound k s e)
    ∙ ap (λ (q : Place). after q (entries_of es)) (onward_place k s e)
    ∙ sym (after_both (entry_of e) (entries_of es) (place_seen k))

through_seen : (es : List ExportedEntry) (k : Kept) → Sound k → seen_since k es ≡ since (place_seen k) (entries_of es)
unfolding seen_since since entries_of
through_seen [] k s = refl
through_seen (e ∷ es) k s =
    rw (through_seen es (kept_onward k e) (onward_sound k s e), onward_place k s e, onward_seen k s e)
    (sym (since_both (entry_of e) (entries_of es) (place_seen k)))

through_sound : (es : List ExportedEntry) (k : Kept) → Sound k → Sound (kept_through k es)
unfolding kept_through
through_sound [] k s = s
through_sound (e ∷ es) k s = through_sound es (kept_onward k e) (onward_sound k s e)

at_exported_place : (rules : Rules) (store : List ℕ) (entries : List ExportedEntry) (k : Kept) → Sound k
    → place_seen k ≡ after (opened rules store) (entries_of entries)
    → AtExportedPlace rules store entries k
at_exported_place rules store entries k s e =
    record {
      words_are_fit = s.fit;
      same_place = e;
      demand = at_place (place_seen k) s.invariant;
      goes_on = λ more. through_place more k s;
      seen_since_is = λ more. through_seen more k s;
      code_is = code_at k s;
      number_is = number_at_lem k s;
      lent_is = λ c. ap (λ (e : Exported). e.lent) (at k s c);
      change_code_is = change_coded k s;
      refused = refused_at k s;
      idle = idle_at k s;
      free_code = ap count_number (counted k s);
      free_buffers_are = λ before. ap (λ (f : FreeCount). value_or (count_values f) before) (counted k s);
    }

-- the words of an opening hold the opening's record
opening_holds : (rules : Rules) → Workable rules → (words : List ℕ) → length words ≡ word_count rules → (store : List ℕ) → length store ≡ store_length
    → Holds rules (opening_words rules words) (opening rules)
opening_holds rules workable words long store full =
    let f = record_fits (opened rules store) (opened_invariant rules workable store full) in
    rw (eq-eqb (length words) (word_count rules) long) (record { fit = written_fits rules (opening rules) words long f; held = read_back rules (opening rules) words long f })

pub exported_demand_3 : ExportedDemand3
exported_demand_3 rules opens words store long full =
    let workable = opening_workable rules opens in
    let h = opening_holds rules workable words long store full in
    let k = kept_at_opening rules words store in
    let at-opening : place_seen k ≡ opened rules store = rw h.held in
    let s : Sound k = record { opening = opens; fit = h.fit; invariant = rw h.held (opened_invariant rules workable store full) } in (
      rw (eq-eqb (length words) (word_count rules) long),
      λ entries. at_exported_place rules store entries (kept_through k entries) (through_sound entries k s)
          (through_place entries k s ∙ ap (λ (q : Place). after q (entries_of entries)) at-opening),
    )
