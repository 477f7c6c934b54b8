-- Lines that are gone through without a fault.
use Rattle.std.proofs.Common.{◌≡◌, ℕ, ◌+◌, List, [], ◌∷◌, ◌++◌, length, map, Option, Some, None, Result, Ok, Err, refl, ap, subst, ◌∙◌, arith}
use Rattle.mvm_base.specs.Answers.{◌>>=◌}
use Rattle.mvm_statement.specs.declared.fault.AsmKind.{AsmKind}
use Rattle.mvm_statement.specs.declared.statement.Statement.{Statement}
use Rattle.mvm_listing.specs.Assembly.{State, turn, turn_of, run}

-- statements, one after the other, of which the first stands on this line
abbrev pub through : ℕ → List Statement → State → Result State AsmKind
through line [] s = Ok s
through line (x ∷ xs) s = turn line x s >>= λ t. through (line + 1) xs t

-- what a line says, if it says anything
abbrev pub said : Option Statement → Result (Option Statement) AsmKind
said x = Ok x

-- the same, where lines may be empty
abbrev pub through_all : ℕ → List (Option Statement) → State → Result State AsmKind
through_all line [] s = Ok s
through_all line (x ∷ xs) s = turn_of line (said x) s >>= λ t. through_all (line + 1) xs t

pub some_through : (line : ℕ) (xs : List Statement) (s : State) → through_all line (map Some xs) s ≡ through line xs s
some_through line [] s = refl
some_through line (x ∷ xs) s = by (λ t. some_through (line + 1) xs t) (turn line x s)
  where
    by : ((t : State) → through_all (line + 1) (map Some xs) t ≡ through (line + 1) xs t) → (r : Result State AsmKind) → (r >>= λ t. through_all (line + 1) (map Some xs) t) ≡ (r >>= λ t. through (line + 1) xs t)
    by later (Ok t) = later t
    by later (Err fault) = refl

all_after : (line : ℕ) (xs ys : List (Option Statement)) (s t : State) → through_all line xs s ≡ Ok t → through_all line (xs ++ ys) s ≡ through_all (line + length xs) ys t
all_after line [] ys s t h =
    let e : s ≡ t = cc in
    let n : line ≡ line + 0 = omega arith in
    subst (λ (u : State). through_all line ys s ≡ through_all (line + 0) ys u) e (ap (λ (k : ℕ). through_all k ys s) n)
all_after line (x ∷ xs) ys s t h = by (turn_of line (said x) s) (λ u k. all_after (line + 1) xs ys u t k) h
  where
    by : (r : Result State AsmKind) → ((u : State) → through_all (line + 1) xs u ≡ Ok t → through_all (line + 1) (xs ++ ys) u ≡ through_all ((line + 1) + length xs) ys t)
        → (r >>= λ u. through_all (line + 1) xs u) ≡ Ok t → (r >>= λ u. through_all (line + 1) (xs ++ ys) u) ≡ through_all (line + length (x ∷ xs)) ys t
    by (Ok u) later k =
        let n : (line + 1) + length xs ≡ line + length (x ∷ xs) = omega arith in
        later u k ∙ ap (λ (m : ℕ). through_all m ys t) n
    by (Err fault) later k = absurd cc

-- one stretch of lines, and another
pub all_joined : (line : ℕ) (xs ys : List (Option Statement)) (s t u : State) → through_all line xs s ≡ Ok t → through_all (line + length xs) ys t ≡ Ok u → through_all line (xs ++ ys) s ≡ Ok u
all_joined line xs ys s t u a b = all_after line xs ys s t a ∙ b

pub run_back : (line : ℕ) (xs : List (Option Statement)) (s t : State) → through_all line xs s ≡ Ok t → run line (map said xs) s ≡ record { state = t; fault = None }
run_back line [] s t h = let e : s ≡ t = cc in ap (λ (u : State). record { state = u; fault = None }) e
run_back line (x ∷ xs) s t h = by (λ u k. run_back (line + 1) xs u t k) (turn_of line (said x) s) refl h
  where
    by : ((u : State) → through_all (line + 1) xs u ≡ Ok t → run (line + 1) (map said xs) u ≡ record { state = t; fault = None })
        → (r : Result State AsmKind) → turn_of line (said x) s ≡ r → (r >>= λ u. through_all (line + 1) xs u) ≡ Ok t → run line (map said (x ∷ xs)) s ≡ record { state = t; fault = None }
    by later (Ok u) e k = rw (run, e) (later u k)
    by later (Err fault) e k = absurd cc
