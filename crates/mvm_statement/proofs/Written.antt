-- Words and operands, as they are written one behind the other.
use Rattle.std.proofs.Common.{◌≡◌, ℕ, Bool, true, false, List, [], ◌∷◌, ◌++◌, refl, sym, ap, ◌∙◌, append_assoc, append-nil}
use Rattle.std.specs.List.{flat_map}
use Rattle.mvm_insn.specs.declared.opcodes.TheConstants as jvm
use Rattle.mvm_statement.specs.Tokens.{spelled_letter, spelled_word, behind_blank, spelled_tokens}
use Rattle.mvm_statement.specs.Words.{name_of}
use Rattle.mvm_statement.specs.Instructions.{spelled_op}
use Rattle.mvm_statement.specs.declared.token.Token.TheVariants.{Bare}
use Rattle.mvm_statement.specs.Operands.{spelled_name}
use Rattle.mvm_statement.specs.declared.token.Token.{Token}

pub words_joined : (a b : List ℕ) → spelled_word (a ++ b) ≡ spelled_word a ++ spelled_word b
words_joined [] b = refl
words_joined (c ∷ cs) b = ap (λ (x : List ℕ). spelled_letter c ∷ x) (words_joined cs b)

pub name_spelled : (class name desc : List ℕ) → spelled_word (spelled_name class name desc) ≡ spelled_word class ++ 46 ∷ (spelled_word name ++ 58 ∷ spelled_word desc)
name_spelled class name desc =
    words_joined class (46 ∷ (name ++ 58 ∷ desc)) ∙ ap (λ (x : List ℕ). spelled_word class ++ 46 ∷ x) (words_joined name (58 ∷ desc))

pub label_spelled : (name : List ℕ) → spelled_word (name ++ 58 ∷ []) ≡ spelled_word name ++ 58 ∷ []
label_spelled name = words_joined name (58 ∷ [])

pub tokens_joined : (a b : List Token) → flat_map behind_blank (a ++ b) ≡ flat_map behind_blank a ++ flat_map behind_blank b
tokens_joined [] b = refl
tokens_joined (t ∷ ts) b = ap (λ (x : List ℕ). behind_blank t ++ x) (tokens_joined ts b) ∙ sym (append_assoc (behind_blank t) (flat_map behind_blank ts) (flat_map behind_blank b))

pub op_joined : (wide : Bool) (op : ℕ) (ts : List Token) → spelled_tokens (spelled_op wide op ts) ≡ spelled_tokens (spelled_op wide op []) ++ flat_map behind_blank ts
op_joined true op ts = rw append-nil (sym (append_assoc (spelled_word (name_of jvm.WIDE)) (behind_blank (Bare (name_of op))) (flat_map behind_blank ts)))
op_joined false op ts = rw append-nil refl
