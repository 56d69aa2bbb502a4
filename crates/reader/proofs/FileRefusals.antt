-- What holds of each refusal that a file's questions can give holds of the one that they give.
use Prim.Native.Nat.{ℕ}
use native.Mathlib.Omega.{arith}
use mathlib.Core.Path.{◌≡◌}
use mathlib.Core.Bool.{Bool, true, false, cond}
use mathlib.Core.List.{List, [], ◌∷◌, ◌++◌}
use mathlib.Core.Option.{some}
use Rattle.items.specs.declared.refusal.Refusal.{Refusal}
use Rattle.items.specs.declared.refusal.Refusal.TheVariants.{FileTooLong, NoFactCount, FileCutOff, UnknownKind, BodyCutOff, FactTooHigh, NoRuleOpened, TooManyRules, WrongRuleCount, BytesAfterEnd, RuleTooLong, UnreadAfterRule}
use Rattle.items.specs.Question.{Question, first_no}
use Rattle.items.specs.Item.{class_of}
use Rattle.cursors.specs.Cursor.{Token, item, bad, items_at, file_start}
use Rattle.items.proofs.ItemSays.{either_said}
use Rattle.reader.specs.Questions.{fresh, opened, lengthened, body_questions, opening_questions, file_questions, Scan}

-- Q holds of the refusal of every question of a list.
abbrev pub Each : (Refusal → Type 0) → List Question → Type 0
Each Q [] = Unit {0}
Each Q (q ∷ qs) = Q q.refusal × Each Q qs

pub each_first : (Q : Refusal → Type 0) (qs : List Question) (r : Refusal) → Each Q qs → first_no qs ≡ some r → Q r
each_first Q [] r a e = absurd (let z : ◌≡◌ {A = ℕ} 0 1 = cc in omega arith)
each_first Q (q ∷ qs) r a e = go q.answer e (each_first Q qs r a.1)
  where
    go : (b : Bool) → cond b (first_no qs) (some q.refusal) ≡ some r → (first_no qs ≡ some r → Q r) → Q r
    go true h f = f h
    go false h f = let w : q.refusal ≡ r = cc in rw (← w) a.0

pub each_append : (Q : Refusal → Type 0) (xs ys : List Question) → Each Q xs → Each Q ys → Each Q (xs ++ ys)
each_append Q [] ys a b = b
each_append Q (x ∷ xs) ys a b = (a.0, each_append Q xs ys a.1 b)

-- The refusals of questions 1 to 10, 51 and 56.
pub record FileRefusals (Q : Refusal → Type 0) : Type 0 where
  pub one : Q FileTooLong
  pub two : Q NoFactCount
  pub three : Q FileCutOff
  pub four : Q UnknownKind
  pub five : Q BodyCutOff
  pub six : Q FactTooHigh
  pub seven : Q NoRuleOpened
  pub eight : Q TooManyRules
  pub nine : Q WrongRuleCount
  pub ten : Q BytesAfterEnd
  pub fifty_one : Q RuleTooLong
  pub fifty_six : Q UnreadAfterRule

module _ (Q : Refusal → Type 0) (a : FileRefusals Q) where
  each-body : (scan : Scan) (ts : List Token) → Each Q (body_questions scan ts)
  each-body scan [] = (a.three, (a.four, (a.five, tt)))
  each-body scan (bad fault ∷ ts) = (a.three, (a.four, (a.five, tt)))
  each-body scan (item i ∷ ts) =
      either_said (Each Q) (class_of i).opens _ _ (λ f _. (a.three, (a.four, (a.five, (a.six, (a.eight, each-body (opened scan) ts))))))
      (λ _. either_said (Each Q) (class_of i).own _ _ (λ o _. (a.three, (a.four, (a.five, (a.six, (a.seven, (a.fifty_one, each-body (lengthened scan) ts)))))))
      (λ _. either_said (Each Q) (class_of i).rules _ _ (λ n _. (a.three, (a.four, (a.five, (a.nine, (a.ten, tt))))))
      (λ _. either_said (Each Q) (class_of i).unread _ _ (λ f _. (a.three, (a.four, (a.five, (a.six, (a.fifty_six, each-body scan ts))))))
      (λ _. (a.three, (a.four, (a.five, tt)))))))

  each-opening : (ts : List Token) → Each Q (opening_questions ts)
  each-opening [] = (a.two, tt)
  each-opening (bad fault ∷ ts) = (a.two, tt)
  each-opening (item i ∷ ts) =
      either_said (Each Q) (class_of i).facts _ _ (λ n _. (a.two, each-body (fresh n) ts)) (λ _. (a.two, tt))

  pub each-file : (s : List ℕ) → Each Q (file_questions s)
  unfolding file_questions
  each-file s = (a.one, each-opening (items_at s file_start))
