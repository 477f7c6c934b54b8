-- The names of the commands, which are all different, and lists of one word.
use Rattle.std.proofs.Common.{◌≡◌, ℕ, ◌≤◌, ◌<◌, true, false, List, [], ◌∷◌, length, map, get_or, sym, ap, ◌∙◌, refl, arith}
use Rattle.std.specs.Prelude.{◌↔◌, ◌≢◌, Option, Some, None}
use Rattle.std.specs.Str.{bytes_eq}
use Rattle.std.proofs.lemmas.Slice.Eq.{bytes_eq-Decides}
use Rattle.mvm.specs.Launch.{name_of, AsksFor}
use Rattle.mvm.specs.declared.words.Command.{Command}
use Rattle.mvm.specs.declared.words.Command.TheVariants.{Run, Assemble, Disassemble}

apart : (c d : Command) → bytes_eq (name_of c) (name_of d) ≡ false → ¬ (name_of c ≡ name_of d)
apart c d other same = (let yes : bytes_eq (name_of c) (name_of d) ≡ true = (bytes_eq-Decides (name_of c) (name_of d)).1 same in absurd cc)

-- two commands of one name are one
pub one_name : (c d : Command) → name_of c ≡ name_of d → c ≡ d
one_name Run Run same = refl
one_name Run Assemble same = absurd (apart Run Assemble refl same)
one_name Run Disassemble same = absurd (apart Run Disassemble refl same)
one_name Assemble Run same = absurd (apart Assemble Run refl same)
one_name Assemble Assemble same = refl
one_name Assemble Disassemble same = absurd (apart Assemble Disassemble refl same)
one_name Disassemble Run same = absurd (apart Disassemble Run refl same)
one_name Disassemble Assemble same = absurd (apart Disassemble Assemble refl same)
one_name Disassemble Disassemble same = refl

-- the command of a name is that of the name
pub of_name : (name : List ℕ) (c : Command) → name ≡ name_of c → (d : Command) → (Some c ≡ Some d) ↔ (name ≡ name_of d)
of_name name c is d = (λ same. (let e : c ≡ d = cc in is ∙ ap name_of e), λ other. ap (λ (x : Command). Some x) (one_name c d (sym is ∙ other)))

-- a name of none is that of no command
pub of_no_name : (name : List ℕ) → name ≢ name_of Run → name ≢ name_of Assemble → name ≢ name_of Disassemble → (d : Command) → (None ≡ Some d) ↔ (name ≡ name_of d)
of_no_name name run asm dump Run = (λ none. absurd cc, λ is. absurd (run is))
of_no_name name run asm dump Assemble = (λ none. absurd cc, λ is. absurd (asm is))
of_no_name name run asm dump Disassemble = (λ none. absurd cc, λ is. absurd (dump is))

front_of : {A : Type 0} → A → List A → A
front_of x [] = x
front_of x (y ∷ ys) = y

-- no words ask for two commands
pub one_command : (words : List (List ℕ)) (c d : Command) → AsksFor words c → AsksFor words d → c ≡ d
unfolding front_of
one_command words c d one other = one_name c d (ap (front_of []) (sym one ∙ other))

-- words of one word ask for what that word names
pub of_one : {A : Type 0} (f : A → List ℕ) (xs : List A) (x : A) (found : Option Command) → 1 ≤ length xs → length xs < 2 → x ≡ get_or xs 0 x
    → ((d : Command) → (found ≡ Some d) ↔ (f x ≡ name_of d)) → (d : Command) → (found ≡ Some d) ↔ AsksFor (map f xs) d
unfolding front_of
of_one f [] x found low high is says d = absurd (omega arith)
of_one f (y ∷ []) x found low high is says d =
    (λ some. ap (λ (w : List ℕ). w ∷ []) (ap f (sym is) ∙ (says d).0 some), λ asked. (says d).1 (ap f is ∙ ap (front_of []) asked))
of_one f (y ∷ z ∷ zs) x found low high is says d = absurd (omega arith)

-- words that are not one ask for nothing
pub of_other : {A : Type 0} (f : A → List ℕ) (xs : List A) → length xs ≢ 1 → (d : Command) → (None ≡ Some d) ↔ AsksFor (map f xs) d
of_other f [] other d = (λ none. absurd cc, λ asked. absurd cc)
of_other f (y ∷ []) other d = absurd (other refl)
of_other f (y ∷ z ∷ zs) other d = (λ none. absurd cc, λ asked. absurd cc)
