-- One item of a rule's view asked: what it tells, and what that is to the rule.
use Prim.Native.Nat.{ℕ, ◌-◌, ◌<◌}
use mathlib.Core.Path.{◌≡◌, refl, sym, ap, subst, ◌∙◌}
use mathlib.Core.Bool.{Bool, true, false, cond, not}
use mathlib.Core.List.{List}
use borrow.Author.Tests.{eq-eqb, ne_eqb}
use lib.ListN.{get_or, set}
use Rattle.theory.specs.Rule.{Rule, FactSet}
use Rattle.theory.proofs.Bools.{never, and-false}
use Rattle.items.specs.declared.item.FactId.{FactId}
use Rattle.items.specs.Item.{asks_in, asks_out, has}
use Rattle.marking.specs.Marks.{barred}
use Rattle.view.specs.declared.range.Own.{Own}
use Rattle.view.specs.declared.range.Own.TheVariants.{Premise, Constraint}
use Rattle.view.specs.declared.range.Taken.{Taken}
use Rattle.view.specs.View.{taken_at}
use Rattle.view.proofs.RangeItems.{Gives, premise_given, constraint_given, none_given}
use Rattle.std.specs.Prelude.{Some, None}
use Rattle.proofcheck.specs.Viewed.{MayAsk, item_fits, barred_by, ItemAnswered, Fitted}
use Rattle.proofcheck.proofs.ReadByView.{Viewing, none_left_lem, premise_missing, premise_there, constraint_below, among_facts, in_the_set, outside-both}

-- Each way through the code.
module _ (M : FactSet) (marks : List ℕ) (o : Own) where
  pub premise_asked : (f : FactId) (fits : Bool) → o ≡ Premise f → fits ≡ has marks f.0 → ItemAnswered M marks o fits marks
  premise_asked f fits q e = rw q (e, refl)

  module _ (f : FactId) (q : o ≡ Constraint f) where
    constraint_asked : (b : Bool) → item_fits M (has marks) (Constraint f) ≡ b → ItemAnswered M marks o b (cond b (set marks f.0 barred) marks)
    constraint_asked b e = rw q (sym e, ap (λ (c : Bool). cond c (set marks f.0 barred) marks) (sym e))

    pub constraint_among : get_or marks f.0 0 ≡ 1 → ItemAnswered M marks o false marks
    unfolding has
    constraint_among e =
        let there : has marks f.0 ≡ true = eq-eqb _ _ e in
        constraint_asked false (rw there)

    pub constraint_in_set : M f.0 ≡ true → ItemAnswered M marks o false marks
    constraint_in_set e = constraint_asked false (rw e (and-false (not (has marks f.0))))

    pub constraint_barred : (get_or marks f.0 0 ≡ 1 → ⊥) → M f.0 ≡ false → ItemAnswered M marks o true (set marks f.0 barred)
    unfolding has
    constraint_barred n e =
        let outside : has marks f.0 ≡ false = ne_eqb _ _ n in
        constraint_asked true (rw (outside, e))

-- Where no item is left the rule fits; else the item decides the rule, or what is left of the view does.
module _ {M : FactSet} {R : Rule} {before marks s : List ℕ} {end at : ℕ} (w : Viewing M R before marks s end at) where
  pub all_fit : None ≡ taken_at s at end → Fitted M R before true marks
  all_fit e = none_left_lem w (none_given s at end w.ends e)

  module _ (t : Taken) (e : Some t ≡ taken_at s at end) where
    pub may_ask : MayAsk t.item marks
    may_ask = record { size = w.size; below = λ f q. constraint_below w f (constraint_given s at end t e f q) }

    abbrev Left : List ℕ → ℕ → Type 0
    Left after rest = Viewing M R before after s end rest × (end - rest < end - at)

    -- of an item that fits or not
    abbrev ToldOf : Own → Type 0
    ToldOf o = (item_fits M (has marks) o ≡ false → Fitted M R before false (barred_by (item_fits M (has marks) o) o marks)) × (item_fits M (has marks) o ≡ true → Left (barred_by (item_fits M (has marks) o) o marks) t.rest)

    premise_told : (f : FactId) → t.item ≡ Premise f → ToldOf (Premise f)
    premise_told f q = go (has marks f.0) refl
      where
        g : Gives s at end t asks_in f
        g = premise_given s at end t e f q

        go : (b : Bool) → has marks f.0 ≡ b → ToldOf (Premise f)
        go true h = (λ o. never h o, λ o. (premise_there w f g h, g.nearer))
        go false h = (λ o. (premise_missing w f g h, λ y. never y refl), λ o. never o h)

    constraint_told : (f : FactId) → t.item ≡ Constraint f → ToldOf (Constraint f)
    constraint_told f q = go (has marks f.0) refl (M f.0) refl
      where
        g : Gives s at end t asks_out f
        g = constraint_given s at end t e f q

        go : (a : Bool) → has marks f.0 ≡ a → (b : Bool) → M f.0 ≡ b → ToldOf (Constraint f)
        go true h b m = rw h (λ o. (among_facts w f g h, λ y. never y refl), λ o. never o refl)
        go false h true m = rw (h, m) (λ o. (in_the_set w f g m, λ y. never y refl), λ o. never o refl)
        go false h false m = rw (h, m) (λ o. never refl o, λ o. (outside-both w f g h m, g.nearer))

    told_of_lem : ToldOf t.item
    told_of_lem = go t.item refl
      where
        go : (o : Own) → t.item ≡ o → ToldOf o
        go (Premise f) q = premise_told f q
        go (Constraint f) q = constraint_told f q

    module _ {fits : Bool} {after : List ℕ} (a : ItemAnswered M marks t.item fits after) where
      pub decided : fits ≡ false → Fitted M R before false after
      decided o = subst (λ (ms : List ℕ). Fitted M R before false ms) (sym a.1) (told_of_lem.0 (sym a.0 ∙ o))

      pub goes_on : fits ≡ true → Left after t.rest
      goes_on o = subst (λ (ms : List ℕ). Left ms t.rest) (sym a.1) (told_of_lem.1 (sym a.0 ∙ o))
