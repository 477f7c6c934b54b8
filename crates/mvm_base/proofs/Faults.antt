-- A text has the fault that is told of it, and no other.
use Rattle.std.proofs.Common.{◌≡◌, ◌≢◌, ◌↔◌, ℕ, List, [], ◌∷◌, ◌++◌, length, Result, Ok, Err, refl, sym, ap, subst, ◌∙◌, append-nil, arith}
use Rattle.mvm_base.specs.Place.{Place}
use Rattle.mvm_base.specs.Answers.{AnswersUnless}
use Rattle.mvm_base.specs.Descriptor.{field_in, field_of, method_of}
use Rattle.mvm_base.specs.DescriptorFaults.{IsFieldText, IsMethodText, HasFault}
use Rattle.mvm_base.specs.declared.descriptor.FieldShape.{FieldShape}
use Rattle.mvm_base.specs.declared.descriptor.MethodShape.{MethodShape}
use Rattle.mvm_base.specs.declared.descriptor.DescFault.{DescFault}
use Rattle.mvm_base.specs.declared.descriptor.DescFault.TheVariants.{OutOfMemory}
use Rattle.mvm_base.proofs.Descriptors.{field_found, some_letters}
use Rattle.mvm_base.proofs.Methods.{method_found}
use Rattle.mvm_base.proofs.FieldFaults.{field_reads_as, field_fault}
use Rattle.mvm_base.proofs.MethodFaults.{after_bracket, method_read, read_as, method_reads_as, method_fault}
use Rattle.mvm_base.proofs.OneFault.{one_fault, no_fault}

abbrev pair : {A : Type 0} → A → List ℕ → ℕ → A × Place
pair x t at = (x, record { at = at; rest = t })

same_rest : (A : Type 0) (x y : A) (s t : List ℕ) (i j : ℕ) → read_as x s i ≡ read_as y t j → s ≡ t
same_rest A x y s t i j e =
    let k : pair x s i ≡ pair y t j = cc in
    ap (λ (z : A × Place). z.1.rest) k

-- ---- no descriptor is a proper beginning of another

fields_end_once : (t more : List ℕ) → IsFieldText t → IsFieldText (t ++ more) → more ≡ []
fields_end_once t more f g =
    let a = field_reads_as t more f in
    let b = field_reads_as (t ++ more) [] g in
    let c = ap (λ (u : List ℕ). field_in 0 0 u) (append-nil (t ++ more)) in
    same_rest FieldShape f.field g.field more [] a.at b.at (sym a.is ∙ sym c ∙ b.is)

methods_end_once : (t more : List ℕ) → IsMethodText t → IsMethodText (t ++ more) → more ≡ []
methods_end_once t more f g =
    let a = method_reads_as f.method more f.fits in
    let b = method_reads_as g.method [] g.fits in
    let h : 40 ∷ (after_bracket f.method ++ more) ≡ 40 ∷ after_bracket g.method = ap (λ (u : List ℕ). u ++ more) (sym f.is) ∙ g.is in
    let k : after_bracket f.method ++ more ≡ after_bracket g.method = cc in
    let e : after_bracket f.method ++ more ≡ after_bracket g.method ++ [] = k ∙ sym (append-nil (after_bracket g.method)) in
    let c = ap (λ (u : List ℕ). method_read 1 u) e in
    same_rest MethodShape f.method g.method more [] a.at b.at (sym a.is ∙ c ∙ b.is)

some_field : IsFieldText [] → ⊥
some_field f = let l = ap length f.is in omega (arith, l, some_letters f.field)

some_method : IsMethodText [] → ⊥
some_method f = let e = f.is in absurd cc

-- ---- the law

field_fault_only : (text : List ℕ) (fault : DescFault) → HasFault IsFieldText text fault → field_of text ≡ Err fault
field_fault_only text fault h = by (field_of text) refl
  where
    by : (r : Result FieldShape DescFault) → field_of text ≡ r → field_of text ≡ Err fault
    by (Ok field) e =
        let f = field_found text field e in
        absurd (no_fault IsFieldText fields_end_once text fault some_field (record { field = field; fits = f.0; is = f.1 }) h)
    by (Err g) e = let k : g ≡ fault = one_fault IsFieldText fields_end_once text g fault (field_fault text g e) h in e ∙ rw k refl

method_fault_only : (text : List ℕ) (fault : DescFault) → HasFault IsMethodText text fault → method_of text ≡ Err fault
method_fault_only text fault h = by (method_of text) refl
  where
    by : (r : Result MethodShape DescFault) → method_of text ≡ r → method_of text ≡ Err fault
    by (Ok method) e =
        let f = method_found text method e in
        absurd (no_fault IsMethodText methods_end_once text fault some_method (record { method = method; fits = f.fits; is = f.is }) h)
    by (Err g) e = let k : g ≡ fault = one_fault IsMethodText methods_end_once text g fault (method_fault text g e) h in e ∙ rw k refl

pub field_law : (text : List ℕ) (fault : DescFault) → (field_of text ≡ Err fault) ↔ HasFault IsFieldText text fault
field_law text fault = (field_fault text fault, field_fault_only text fault)

pub method_law : (text : List ℕ) (fault : DescFault) → (method_of text ≡ Err fault) ↔ HasFault IsMethodText text fault
method_law text fault = (method_fault text fault, method_fault_only text fault)

-- ---- what the calls answer

told : {A : Type 0} (result definition : Result A DescFault) (IsFault : DescFault → Type 0) → ((fault : DescFault) → definition ≡ Err fault → IsFault fault) → AnswersUnless OutOfMemory result definition → (fault : DescFault) → result ≡ Err fault → fault ≢ OutOfMemory → IsFault fault
told (Ok x) definition IsFault law a fault e n = absurd cc
told (Err f) definition IsFault law a fault e n = let k : f ≡ fault = cc in law fault (subst (λ (g : DescFault). g ≢ OutOfMemory → definition ≡ Err g) k a n)

pub field_told_fault : (text : List ℕ) (result : Result FieldShape DescFault) → AnswersUnless OutOfMemory result (field_of text) → (fault : DescFault) → result ≡ Err fault → fault ≢ OutOfMemory → HasFault IsFieldText text fault
field_told_fault text result a = told result (field_of text) (λ (fault : DescFault). HasFault IsFieldText text fault) (field_fault text) a

pub method_told_fault : (text : List ℕ) (result : Result MethodShape DescFault) → AnswersUnless OutOfMemory result (method_of text) → (fault : DescFault) → result ≡ Err fault → fault ≢ OutOfMemory → HasFault IsMethodText text fault
method_told_fault text result a = told result (method_of text) (λ (fault : DescFault). HasFault IsMethodText text fault) (method_fault text) a

pub field_fault_told : (text : List ℕ) (result : Result FieldShape DescFault) → AnswersUnless OutOfMemory result (field_of text) → (fault : DescFault) → HasFault IsFieldText text fault → AnswersUnless OutOfMemory result (Err fault)
field_fault_told text result a fault h = subst (λ (r : Result FieldShape DescFault). AnswersUnless OutOfMemory result r) (field_fault_only text fault h) a

pub method_fault_told : (text : List ℕ) (result : Result MethodShape DescFault) → AnswersUnless OutOfMemory result (method_of text) → (fault : DescFault) → HasFault IsMethodText text fault → AnswersUnless OutOfMemory result (Err fault)
method_fault_told text result a fault h = subst (λ (r : Result MethodShape DescFault). AnswersUnless OutOfMemory result r) (method_fault_only text fault h) a
