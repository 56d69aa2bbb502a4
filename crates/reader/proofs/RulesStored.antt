-- The tables while a scan fills them: the rules opened so far are stored, and of the last one what is read.
use Prim.Native.Nat.{ℕ, suc, ◌+◌, ◌-◌, ◌<◌, ◌≤◌}
use mathlib.Core.Path.{◌≡◌, refl, sym, ap, subst, ◌∙◌}
use mathlib.Core.List.{List, [], ◌∷◌, map}
use mathlib.Core.Logic.{⊎_elim}
use native.Mathlib.Omega.{arith}
use native.Mathlib.Nat.{add-zero, zero-add}
use lib.ListN.{length, get_or, set, drop, length-set, length-replicate}
use lib.Seq.{get_or-set_same, get_or-set_other, get_or-drop, drop-drop}
use Rattle.theory.specs.Rule.{Rule, Program, range, up_to, blank, count, withheld}
use Rattle.theory.specs.Conditions.{Bounded}
use Rattle.theory.proofs.Withheld.{withheld-any}
use Rattle.items.specs.declared.item.FactId.{FactId}
use Rattle.items.specs.declared.item.Item.TheVariants.{Opens, Premise, Constraint, Rules, Unread}
use Rattle.cursors.specs.declared.cursor.Cursor.{Cursor}
use Rattle.cursors.specs.declared.cursor.Row.TheVariants.{Body}
use Rattle.items.specs.Item.{narrow, max_facts, max_rules, max_rule_items}
use Rattle.cursors.specs.Cursor.{items_at, body_at}
use Rattle.cursors.proofs.Items.{ReadAt}
use Rattle.tables.specs.Layout.{max_own, facts_cell, rules_cell, conclusions_from, places_from, premise_starts_from, constraint_starts_from, own_from, table_cells, last_cell, rules_in, conclusion_in, place_in, premise_start, constraint_start, premise_at, constraint_at, rule_in, facts_in, unread_in, withheld_in, program_in}
use Rattle.reader.specs.Questions.{premises_of, constraints_of, rule_of, rules_of, behind_rules}
use Rattle.reader.specs.Scanned.{RuleAt}
use Rattle.reader.specs.BodyScanned.{program_from, BodyTabled, Cleared}
use Rattle.reader.specs.Scanning.{Filled, rule_from, Storing, Holding}
use Rattle.stores.specs.Stores.{with_rule, with_counts}
use Rattle.reader.proofs.PartsFilled.{last-or_before, none_begun, kept, same_ahead, one_read, next_rule}
use Rattle.stores.proofs.CellsStored.{RuleStored, rule-stored, CountsStored, counts_stored, counts_marks, MarksOnly, MarksKept}
use Rattle.reader.proofs.UnreadMarked.{nothing-in, unread_told, withheld-told}

pub none_stored : (s : List ℕ) (c : Cursor) (T : List ℕ) → Cleared T → Storing s c c T 0 0 0 0
none_stored s c T cleared =
    record {
      passed = refl;
      behind = refl;
      total = omega arith;
      few = omega arith;
      size = ap length cleared.zeros ∙ length-replicate {A = ℕ} table_cells 0;
      no_facts = nothing-in cleared facts_cell;
      no_rules = nothing-in cleared rules_cell;
      conclusions = λ i h. absurd (omega arith);
      places = λ i h. absurd (omega arith);
      premises = none_begun _ _ _ _ _ refl;
      constraints = none_begun _ _ _ _ _ refl;
      within = omega arith;
    }

-- the first of the rules to come, and the others
to-come : {A : Type 0} (none : A) (rs : List A) (n : ℕ) (r : A) (rest : List A) → drop n rs ≡ r ∷ rest → (get_or rs n none ≡ r) × (drop (n + 1) rs ≡ rest)
to-come {A} none rs n r rest e =
    (ap (λ (i : ℕ). get_or rs i none) (sym (add-zero n)) ∙ (sym (get_or-drop n rs 0 none) ∙ ap (λ (l : List A). get_or l 0 none) e), sym (drop-drop 1 n rs) ∙ ap (drop 1) e)

module _ {s : List ℕ} {c₀ c : Cursor} {T : List ℕ} {n allowance filled barred : ℕ} (w : Storing s c₀ c T n allowance filled barred) where
  -- a rule
  module _ {f : FactId} {d : Cursor} (r : ReadAt s c (Opens f) d) (body : d.row ≡ Body) (few : n < max_rules) where
    pub opened-rule : get_or (rules_of (items_at s c₀)) n blank ≡ rule_of f (items_at s d)
    opened-rule = (to-come blank (rules_of (items_at s c₀)) n _ _ (w.passed ∙ ap rules_of r.items)).0

    pub rule-kept : Storing s c₀ d (with_rule T n f.0 d.at filled barred) (n + 1) max_rule_items filled barred
    rule-kept = go (rule-stored T w.size n f.0 d.at filled barred few)
      where
        go : {T' : List ℕ} → RuleStored T T' n f.0 d.at filled barred → Storing s c₀ d T' (n + 1) max_rule_items filled barred
        go {T'} t =
            record {
              passed = (to-come blank (rules_of (items_at s c₀)) n _ _ (w.passed ∙ ap rules_of r.items)).1;
              behind = behind_it.1;
              total = w.total ∙ ap (λ ts. n + length (rules_of ts)) r.items ∙ omega arith;
              few = omega arith;
              size = t.size;
              no_facts = t.kept facts_cell (λ e. omega arith) (λ e. omega arith) (λ e. omega arith) (λ e. omega arith) ∙ w.no_facts;
              no_rules = t.kept rules_cell (λ e. omega arith) (λ e. omega arith) (λ e. omega arith) (λ e. omega arith) ∙ w.no_rules;
              conclusions = λ i h. ⊎_elim (λ l. before_conclusion i l ∙ w.conclusions i l) (λ q. rw q (t.conclusion ∙ sym (ap (λ (x : Rule). x.conclusion) opened-rule))) (last-or_before i n h);
              places = λ i h. ⊎_elim (λ l. rw (before_place i l) (w.places i l)) (λ q. at_last i q) (last-or_before i n h);
              premises =
                  next_rule (kept w.premises (premise_start T') (premise_at T') before_premise row-premise) (premises_of (items_at s d)) (ap premises_of r.items) t.premise
                  (ap (λ (x : Rule). x.premises) opened-rule);
              constraints =
                  next_rule (kept w.constraints (constraint_start T') (constraint_at T') before_constraint row-constraint) (constraints_of (items_at s d)) (ap constraints_of r.items) t.constraint
                  (ap (λ (x : Rule). x.constraints) opened-rule);
              within = omega (arith, w.within);
            }
          where
            before_conclusion : (i : ℕ) → i < n → conclusion_in T' i ≡ conclusion_in T i
            before_conclusion i l = t.kept (conclusions_from + i) (λ e. omega arith) (λ e. omega arith) (λ e. omega arith) (λ e. omega arith)

            before_place : (i : ℕ) → i < n → place_in T' i ≡ place_in T i
            before_place i l = t.kept (places_from + i) (λ e. omega arith) (λ e. omega arith) (λ e. omega arith) (λ e. omega arith)

            before_premise : (i : ℕ) → i < n → premise_start T' i ≡ premise_start T i
            before_premise i l = t.kept (premise_starts_from + i) (λ e. omega arith) (λ e. omega arith) (λ e. omega arith) (λ e. omega arith)

            before_constraint : (i : ℕ) → i < n → constraint_start T' i ≡ constraint_start T i
            before_constraint i l = t.kept (constraint_starts_from + i) (λ e. omega arith) (λ e. omega arith) (λ e. omega arith) (λ e. omega arith)

            row-premise : (j : ℕ) → j < filled → premise_at T' j ≡ premise_at T j
            row-premise j l = t.kept (own_from + j) (λ e. omega arith) (λ e. omega arith) (λ e. omega arith) (λ e. omega arith)

            barred-fit : barred ≤ max_own
            barred-fit = omega (arith, w.within, w.few)

            row-constraint : (j : ℕ) → j < barred → constraint_at T' j ≡ constraint_at T j
            row-constraint j l = let b : barred ≤ max_own = barred-fit in t.kept (last_cell - j) (λ e. omega arith) (λ e. omega arith) (λ e. omega arith) (λ e. omega arith)

            here : body_at d.at ≡ d
            here = λ j. record { at = d.at; row = sym body j }

            behind_it : (get_or (behind_rules (items_at s c₀)) n [] ≡ items_at s d) × (drop (n + 1) (behind_rules (items_at s c₀)) ≡ behind_rules (items_at s d))
            behind_it = to-come [] (behind_rules (items_at s c₀)) n _ _ (w.behind ∙ ap behind_rules r.items)

            own-here : RuleAt s c₀ d.at n
            own-here = ap (items_at s) here ∙ sym behind_it.0

            at_last : (i : ℕ) → i ≡ n → RuleAt s c₀ (place_in T' i) i
            at_last i q = subst (λ (j : ℕ). RuleAt s c₀ (place_in T' j) j) (sym q) (subst (λ (p : ℕ). RuleAt s c₀ p n) (sym t.place) own-here)

  -- marks alone are stored
  pub storing_kept : {T' : List ℕ} → MarksOnly T T' → Storing s c₀ c T' n allowance filled barred
  storing_kept {T'} m =
      record {
        passed = w.passed;
        behind = w.behind;
        total = w.total;
        few = w.few;
        size = m.size;
        no_facts = m.others facts_cell (λ l. omega arith) ∙ w.no_facts;
        no_rules = m.others rules_cell (λ l. omega arith) ∙ w.no_rules;
        conclusions = λ i h. m.others (conclusions_from + i) (λ l. omega (arith, w.few)) ∙ w.conclusions i h;
        places = λ i h. rw (m.others (places_from + i) (λ l. omega (arith, w.few))) (w.places i h);
        premises = kept w.premises (premise_start T') (premise_at T') (λ i h. m.others (premise_starts_from + i) (λ l. omega (arith, w.few))) (λ j h. m.others (own_from + j) (λ l. omega arith));
        constraints =
            kept w.constraints (constraint_start T') (constraint_at T') (λ i h. m.others (constraint_starts_from + i) (λ l. omega (arith, w.few)))
            (λ j h. m.others (last_cell - j) (λ l. omega (arith, fits)));
        within = w.within;
      }
    where
      fits : filled + barred ≤ max_own
      fits = omega (arith, w.within, w.few)

  -- an unread fact, before the first rule
  pub unread_kept : {f : FactId} {d : Cursor} → ReadAt s c (Unread f) d → n ≡ 0 → Storing s c₀ d T n allowance filled barred
  unread_kept r none-opened =
      record {
        passed = w.passed ∙ ap rules_of r.items;
        behind = w.behind ∙ ap behind_rules r.items;
        total = w.total ∙ ap (λ ts. n + length (rules_of ts)) r.items;
        few = w.few;
        size = w.size;
        no_facts = w.no_facts;
        no_rules = w.no_rules;
        conclusions = w.conclusions;
        places = w.places;
        premises = none_begun _ _ _ _ _ none-opened;
        constraints = none_begun _ _ _ _ _ none-opened;
        within = w.within;
      }

  -- a premise
  module _ {f : FactId} {d : Cursor} (r : ReadAt s c (Premise f) d) (some_left : allowance ≡ 0 → ⊥) where
    pub premise_kept : Storing s c₀ d (set T (own_from + filled) f.0) n (allowance - 1) (filled + 1) barred
    premise_kept =
        record {
          passed = w.passed ∙ ap rules_of r.items;
          behind = w.behind ∙ ap behind_rules r.items;
          total = w.total ∙ ap (λ ts. n + length (rules_of ts)) r.items;
          few = w.few;
          size = length-set T (own_from + filled) f.0 ∙ w.size;
          no_facts = elsewhere facts_cell (λ e. omega arith) ∙ w.no_facts;
          no_rules = elsewhere rules_cell (λ e. omega arith) ∙ w.no_rules;
          conclusions = λ i h. elsewhere (conclusions_from + i) (λ e. omega (arith, w.few)) ∙ w.conclusions i h;
          places = λ i h. rw (elsewhere (places_from + i) (λ e. omega (arith, w.few))) (w.places i h);
          premises =
              one_read (kept w.premises (premise_start T') (premise_at T') (λ i h. elsewhere (premise_starts_from + i) (λ e. omega (arith, w.few))) (λ j h. elsewhere (own_from + j) (λ e. omega arith))) f.0 (premises_of (items_at s d))
              (ap premises_of r.items) (get_or-set_same T (own_from + filled) f.0 0 (omega (arith, w.size, fits)));
          constraints =
              same_ahead (kept w.constraints (constraint_start T') (constraint_at T') (λ i h. elsewhere (constraint_starts_from + i) (λ e. omega (arith, w.few))) (λ j h. elsewhere (last_cell - j) (λ e. omega (arith, fits))))
              (constraints_of (items_at s d)) (ap constraints_of r.items);
          within = omega (arith, w.within);
        }
      where
        T' : List ℕ
        T' = set T (own_from + filled) f.0

        fits : filled + barred < max_own
        fits = omega (arith, w.within, w.few, some_left)

        elsewhere : (k : ℕ) → (k ≡ own_from + filled → ⊥) → get_or T' k 0 ≡ get_or T k 0
        elsewhere k h = get_or-set_other T (own_from + filled) k f.0 0 h

  -- a constraint
  module _ {f : FactId} {d : Cursor} (r : ReadAt s c (Constraint f) d) (some_left : allowance ≡ 0 → ⊥) where
    pub constraint_kept : Storing s c₀ d (set T (last_cell - barred) f.0) n (allowance - 1) filled (barred + 1)
    constraint_kept =
        record {
          passed = w.passed ∙ ap rules_of r.items;
          behind = w.behind ∙ ap behind_rules r.items;
          total = w.total ∙ ap (λ ts. n + length (rules_of ts)) r.items;
          few = w.few;
          size = length-set T (last_cell - barred) f.0 ∙ w.size;
          no_facts = elsewhere facts_cell (λ e. omega (arith, fits)) ∙ w.no_facts;
          no_rules = elsewhere rules_cell (λ e. omega (arith, fits)) ∙ w.no_rules;
          conclusions = λ i h. elsewhere (conclusions_from + i) (λ e. omega (arith, w.few, fits)) ∙ w.conclusions i h;
          places = λ i h. rw (elsewhere (places_from + i) (λ e. omega (arith, w.few, fits))) (w.places i h);
          premises =
              same_ahead (kept w.premises (premise_start T') (premise_at T') (λ i h. elsewhere (premise_starts_from + i) (λ e. omega (arith, w.few, fits))) (λ j h. elsewhere (own_from + j) (λ e. omega (arith, fits))))
              (premises_of (items_at s d)) (ap premises_of r.items);
          constraints =
              one_read (kept w.constraints (constraint_start T') (constraint_at T') (λ i h. elsewhere (constraint_starts_from + i) (λ e. omega (arith, w.few, fits))) (λ j h. elsewhere (last_cell - j) (λ e. omega (arith, fits)))) f.0 (constraints_of (items_at s d))
              (ap constraints_of r.items) (get_or-set_same T (last_cell - barred) f.0 0 (omega (arith, w.size, fits)));
          within = omega (arith, w.within);
        }
      where
        T' : List ℕ
        T' = set T (last_cell - barred) f.0

        fits : filled + barred < max_own
        fits = omega (arith, w.within, w.few, some_left)

        elsewhere : (k : ℕ) → (k ≡ last_cell - barred → ⊥) → get_or T' k 0 ≡ get_or T k 0
        elsewhere k h = get_or-set_other T (last_cell - barred) k f.0 0 h

-- Rules that are the same one by one.
same_rules : (g : ℕ → Rule) (a : ℕ) (rs : List Rule) → ((i : ℕ) → i < length rs → g (a + i) ≡ get_or rs i blank) → map g (range a (length rs)) ≡ rs
same_rules g a [] h = refl
same_rules g a (r ∷ rs) h = rw (← first, same_rules g (suc a) rs later)
  where
    first : g a ≡ r
    first = ap g (sym (add-zero a)) ∙ h 0 (omega arith)

    later : (i : ℕ) → i < length rs → g (suc a + i) ≡ get_or rs i blank
    later i l = let next : suc a + i ≡ a + suc i = omega arith in ap g next ∙ h (suc i) (omega arith)

-- The count of rules ends the body: the tables hold the program.
module _ {s : List ℕ} {c₀ c : Cursor} {T : List ℕ} {n allowance filled barred : ℕ} (w : Storing s c₀ c T n allowance filled barred) {k : ℕ} {d : Cursor} (r : ReadAt s c (Rules k) d) (ends : items_at s d ≡ []) where
  pub all_read : length (rules_of (items_at s c₀)) ≡ n
  all_read = w.total ∙ (ap (λ ts. n + length (rules_of ts)) r.items ∙ (ap (λ ts. n + length (rules_of ts)) ends ∙ add-zero n))

  module _ {facts : ℕ} {T' : List ℕ} (t : CountsStored T T' facts n filled barred) where
    premises_whole : Filled (λ i. (rule_from s c₀ i).premises) (premise_start T') (premise_at T') (n + 1) filled (rule_from s c₀ n).premises
    premises_whole =
        next_rule
        (kept w.premises (premise_start T') (premise_at T') (λ i l. t.kept (premise_starts_from + i) (omega arith) (λ e. omega arith) (λ e. omega (arith, w.few))) (λ j l. t.kept (own_from + j) (omega arith) (λ e. omega (arith, w.few)) (λ e. omega (arith, w.few))))
        _ (ap premises_of r.items) t.premise refl

    fit : filled + barred ≤ max_own
    fit = omega (arith, w.within, w.few)

    constraints-whole : Filled (λ i. (rule_from s c₀ i).constraints) (constraint_start T') (constraint_at T') (n + 1) barred (rule_from s c₀ n).constraints
    constraints-whole =
        next_rule
        (kept w.constraints (constraint_start T') (constraint_at T') (λ i l. t.kept (constraint_starts_from + i) (omega arith) (λ e. omega (arith, w.few)) (λ e. omega arith)) (λ j l. t.kept (last_cell - j) (omega (arith, fit)) (λ e. omega (arith, w.few, fit)) (λ e. omega (arith, w.few, fit))))
        _ (ap constraints_of r.items) t.constraint refl

    rule-there : (i : ℕ) → i < n → rule_in T' i ≡ rule_from s c₀ i
    unfolding rule_in
    rule-there i h = λ j. record { conclusion = same_conclusion j; premises = premises_whole.done i (omega arith) j; constraints = constraints-whole.done i (omega arith) j }
      where
        same_conclusion : conclusion_in T' i ≡ (rule_from s c₀ i).conclusion
        same_conclusion = t.kept (conclusions_from + i) (omega arith) (λ e. omega (arith, w.few)) (λ e. omega (arith, w.few)) ∙ w.conclusions i h

    program-there : unread_in T' facts ≡ (program_from facts s c₀).unread → program_in T' ≡ program_from facts s c₀
    unfolding program_in
    program-there u = λ j. record { facts = t.facts j; rules = rules-there j; unread = unread_there j }
      where
        unread_there : unread_in T' (facts_in T') ≡ (program_from facts s c₀).unread
        unread_there = ap (unread_in T') t.facts ∙ u

        rules-there : map (rule_in T') (up_to (rules_in T')) ≡ rules_of (items_at s c₀)
        rules-there =
            ap (λ (m : ℕ). map (rule_in T') (up_to m)) (t.rules ∙ sym all_read)
            ∙ same_rules (rule_in T') 0 (rules_of (items_at s c₀)) (λ i h. ap (rule_in T') (zero-add i) ∙ rule-there i (rw all_read at h))

    tabled : facts < max_facts narrow → Bounded (program_from facts s c₀) → Holding facts s c₀ c T n → BodyTabled facts s c₀ T'
    tabled few bounded held =
        record {
          program = same_program;
          well_formed =
              record {
                facts_few = rw t.facts few;
                rules_few = rw t.rules w.few;
                premise_spans = record { low = λ i h. premises_whole.low i (below i h); high = λ i h. omega (arith, premises_whole.high i (below i h), fit) };
                constraint_spans = record { low = λ i h. constraints-whole.low i (below i h); high = λ i h. omega (arith, constraints-whole.high i (below i h), fit) };
                in_bounds = rw same_program bounded;
                marks_withheld = λ i h. withheld-there i (rw t.rules at h);
              };
          placed = λ i h.
              rw (t.kept (places_from + i) (omega arith) (λ e. omega (arith, w.few, in_range i h)) (λ e. omega (arith, w.few, in_range i h))) (w.places i (in_range i h));
        }
      where
        marks_kept : MarksKept T T'
        marks_kept = counts_marks t w.few

        same_program : program_in T' ≡ program_from facts s c₀
        same_program = program-there (unread_told few marks_kept held r ends)

        withheld-there : (i : ℕ) → i < n → withheld_in T' i ≡ withheld (program_in T') i
        withheld-there i h =
            withheld-told few w.few marks_kept held r ends i h
            ∙ sym (ap (λ (P : Program). withheld P i) same_program ∙ withheld-any (program_from facts s c₀) i (rw all_read h))

        below : (i : ℕ) → i < rules_in T' → i + 1 < n + 1
        below i h = omega (arith, t.rules)

        in_range : (i : ℕ) → i < count (program_from facts s c₀) → i < n
        in_range i h = rw all_read at h

  pub all-stored : {facts : ℕ} → facts < max_facts narrow → Bounded (program_from facts s c₀) → Holding facts s c₀ c T n → BodyTabled facts s c₀ (with_counts T facts n filled barred)
  all-stored {facts} few bounded held = tabled (counts_stored T w.size facts n filled barred w.few) few bounded held
