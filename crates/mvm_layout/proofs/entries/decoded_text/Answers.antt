use Rattle.std.proofs.Common.{◌≡◌, ℕ, List, Ok, Err, sym}
use Rattle.mvm_base.specs.Answers.{AnswersUnless}
use Rattle.mvm_base.specs.declared.modified_utf8.Utf8Fault.{Utf8Fault}
use Rattle.mvm_base.specs.declared.modified_utf8.Utf8Fault.TheVariants.{Bad, OutOfMemory}
use Rattle.mvm_layout.proofs.Texts.{decoded_text-complete, decoded_text-none}
use Rattle.mvm_layout.proofs.entries.decoded_text.Goals as goal

not_bad : (place : ℕ) (units : List ℕ) → AnswersUnless OutOfMemory (Err (Bad place)) (Ok units) → ⊥
not_bad place units d = let e = d (λ wanted. cc) in cc

not_decoded : (fault : Utf8Fault) (place : ℕ) (units : List ℕ) → fault ≡ Bad place → AnswersUnless OutOfMemory (Err fault) (Ok units) → ⊥
not_decoded (Bad at) place units e d = not_bad at units d
not_decoded OutOfMemory place units e d = absurd cc

pub returns-in-Ok : goal.returns-in-Ok
returns-in-Ok c = sym (decoded_text-complete c.args.bytes.now c.in-Ok.name c.in-Ok.ensures.found.0 c.in-Ok.ensures.found.1)

pub returns-in-Err-Bad : goal.returns-in-Err-Bad
returns-in-Err-Bad c = sym (decoded_text-none c.args.bytes.now (λ units h e. not_decoded c.in-Err-Bad.field-0 c.in-Err-Bad.field-0-0 units c.in-Err-Bad.field-0-is (c.in-Err-Bad.ensures.only units h e)))
