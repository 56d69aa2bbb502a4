-- What an item says: it says it or not, and its tag tells which. The arm `_` of a match on an item knows only that the tag is none of those of the
-- other arms.
use Prim.Native.Nat.{ℕ}
use mathlib.Core.Path.{◌≡◌, refl, sym, subst, ◌∙◌}
use mathlib.Core.Bool.{not}
use mathlib.Core.List.{List, [], ◌∷◌}
use mathlib.Core.Logic.{inl, inr}
use mathlib.Core.Option.{Option, none, some}
use native.Mathlib.Omega.{arith}
use lib.Dec.{T}
use mir.Val.{has_key}
use types.Run.{OneOf, miss}
use denote.Enum.Declared.{tag_of}
use Rattle.items.specs.declared.item.Item.{Item}
use Rattle.items.specs.declared.item.Item.TheVariants.{Facts, Opens, Premise, Constraint, Rules, Names, Step, Unread}
use Rattle.items.specs.contracts.item.Item.{the_type}
use Rattle.items.specs.Item.{class_of, where_said}

-- The tag of an item is one of these.
abbrev pub Tagged : List ℕ → Item → Type 0
Tagged ks i = OneOf ks (tag_of the_type i)

-- Only an item with one of these tags says it.
pub data SaidBy {A : Type 0} (ks : List ℕ) (i : Item) (said : Option A) : Type 0 where
  tagged : Tagged ks i → SaidBy ks i said
  silent : said ≡ none → SaidBy ks i said

pub record ByTags (i : Item) : Type 0 where
  pub facts : SaidBy (0 ∷ []) i (class_of i).facts
  pub opens : SaidBy (1 ∷ []) i (class_of i).opens
  pub own : SaidBy (2 ∷ 3 ∷ []) i (class_of i).own
  pub rules : SaidBy (4 ∷ []) i (class_of i).rules
  pub names : SaidBy (5 ∷ []) i (class_of i).names
  pub step : SaidBy (6 ∷ []) i (class_of i).step
  pub unread : SaidBy (7 ∷ []) i (class_of i).unread

pub by_tags : (i : Item) → ByTags i
by_tags (Facts n) = record { facts = tagged refl; opens = silent refl; own = silent refl; rules = silent refl; names = silent refl; step = silent refl; unread = silent refl }
by_tags (Opens f) = record { facts = silent refl; opens = tagged refl; own = silent refl; rules = silent refl; names = silent refl; step = silent refl; unread = silent refl }
by_tags (Premise f) = record { facts = silent refl; opens = silent refl; own = tagged (inl refl); rules = silent refl; names = silent refl; step = silent refl; unread = silent refl }
by_tags (Constraint f) = record { facts = silent refl; opens = silent refl; own = tagged (inr refl); rules = silent refl; names = silent refl; step = silent refl; unread = silent refl }
by_tags (Rules n) = record { facts = silent refl; opens = silent refl; own = silent refl; rules = tagged refl; names = silent refl; step = silent refl; unread = silent refl }
by_tags (Names r) = record { facts = silent refl; opens = silent refl; own = silent refl; rules = silent refl; names = tagged refl; step = silent refl; unread = silent refl }
by_tags (Step f r) = record { facts = silent refl; opens = silent refl; own = silent refl; rules = silent refl; names = silent refl; step = tagged refl; unread = silent refl }
by_tags (Unread f) = record { facts = silent refl; opens = silent refl; own = silent refl; rules = silent refl; names = silent refl; step = silent refl; unread = tagged refl }

abbrev Apart : List ℕ → List ℕ → Type 0
Apart [] ls = Unit {0}
Apart (k ∷ ks) ls = T (not (has_key ls k)) × Apart ks ls

apart : (ks ls : List ℕ) (t : ℕ) → Apart ks ls → OneOf ks t → OneOf ls t → ⊥
apart [] ls t a e f = e
apart (k ∷ []) ls t a e f = miss ls k a.0 (subst (OneOf ls) e f)
apart (k ∷ m ∷ ks) ls t a (inl e) f = miss ls k a.0 (subst (OneOf ls) e f)
apart (k ∷ m ∷ ks) ls t a (inr e) f = apart (m ∷ ks) ls t a.1 e f

-- An item with none of these tags does not say it.
pub unsaid : {A : Type 0} {i : Item} {said : Option A} {ks : List ℕ} → SaidBy ks i said → (ls : List ℕ) → Apart ks ls → Tagged ls i → said ≡ none
unsaid {i = i} {ks = ks} (tagged t) ls a u = absurd (apart ks ls (tag_of the_type i) a t u)
unsaid (silent e) ls a u = e

-- An item that says one thing does not say another.
pub alone : {A B : Type 0} {i : Item} {said : Option A} {other : Option B} {x : A} {ks ls : List ℕ} → SaidBy ks i said → said ≡ some x → SaidBy ls i other → Apart ls ks → other ≡ none
alone {ks = ks} (tagged t) e others a = unsaid others ks a t
alone {x = x} (silent q) e others a = absurd (never (sym e ∙ q))
  where
    never : ◌≡◌ (some x) none → ⊥
    never e = let z : ◌≡◌ {A = ℕ} 0 1 = cc in omega arith

-- An item says it or not.
pub either_said : {A B : Type 0} (P : B → Type 0) (said : Option A) (f : A → B) (b : B) → ((x : A) → said ≡ some x → P (f x)) → (said ≡ none → P b) → P (where_said said f b)
either_said P (some x) f b yes-so not_so = yes-so x refl
either_said P none f b yes-so not_so = not_so refl
