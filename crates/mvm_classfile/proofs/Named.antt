-- The lowest entry of a name names it, and stands no higher than any that does.
use Rattle.std.proofs.Common.{◌≡◌, ℕ, zero, suc, ◌+◌, ◌≤◌, Bool, true, false, List, [], ◌∷◌, Option, Some, None, refl, sym, ◌∙◌, arith}
use Rattle.std.specs.Prelude.{slice_get}
use Rattle.mvm_layout.specs.declared.parts.Item.{Item}
use Rattle.mvm_layout.specs.declared.parts.Item.TheVariants.{Utf8, Integer, Float, Long, Double, Upper, Class, Str, Fieldref, Methodref, InterfaceMethodref, NameAndType, MethodHandle, MethodType, InvokeDynamic}
use Rattle.mvm_layout.specs.Pool.{is_utf8, text_of, text, is_text}
use Rattle.mvm_classfile.specs.Writing.{is_text_item, index_from, name_index}

-- the same test of an item that is there
item_test : (wanted : List ℕ) (item : Item) → is_text wanted (text_of (Some item)) ≡ is_text_item wanted item
item_test wanted (Utf8 text) = refl
item_test wanted (Integer n) = refl
item_test wanted (Float n) = refl
item_test wanted (Long n) = refl
item_test wanted (Double n) = refl
item_test wanted Upper = refl
item_test wanted (Class n) = refl
item_test wanted (Str n) = refl
item_test wanted (Fieldref n m) = refl
item_test wanted (Methodref n m) = refl
item_test wanted (InterfaceMethodref n m) = refl
item_test wanted (NameAndType n m) = refl
item_test wanted (MethodHandle n m) = refl
item_test wanted (MethodType n) = refl
item_test wanted (InvokeDynamic n m) = refl

-- where the lowest of them stands
record Lowest (n : ℕ) (wanted : List ℕ) (items : List Item) (most : ℕ) : Type 0 where
  place : ℕ
  is : index_from n wanted items ≡ n + place
  low : place ≤ most
  named : is_text wanted (text_of (slice_get items place)) ≡ true

lowest : (n : ℕ) (wanted : List ℕ) (items : List Item) (i : ℕ) → is_text wanted (text_of (slice_get items i)) ≡ true → Lowest n wanted items i
lowest n wanted [] i h = absurd cc
lowest n wanted (item ∷ items) zero h =
    let t : is_text_item wanted item ≡ true = sym (item_test wanted item) ∙ h in
    record { place = 0; is = rw t (omega arith); low = omega arith; named = h }
lowest n wanted (item ∷ items) (suc i) h = by (is_text_item wanted item) refl (lowest (n + 1) wanted items i h)
  where
    by : (b : Bool) → is_text_item wanted item ≡ b → Lowest (n + 1) wanted items i → Lowest n wanted (item ∷ items) (suc i)
    by true t l = record { place = 0; is = rw t (omega arith); low = omega arith; named = item_test wanted item ∙ t }
    by false t l = record { place = suc l.place; is = rw t (l.is ∙ omega arith); low = omega (arith, l.low); named = l.named }

pub record IsNamed (pool : List Item) (wanted : List ℕ) (most : ℕ) : Type 0 where
  pub named : is_text wanted (text pool (name_index pool wanted)) ≡ true
  pub low : name_index pool wanted ≤ most

pub name_index_is : (pool : List Item) (wanted : List ℕ) (n : ℕ) → is_text wanted (text pool n) ≡ true → IsNamed pool wanted n
unfolding name_index
name_index_is pool wanted zero h = absurd cc
name_index_is pool wanted (suc i) h =
    let l = lowest 1 wanted pool i h in
    let e : name_index pool wanted ≡ suc l.place = l.is ∙ omega arith in
    record { named = rw e l.named; low = omega (arith, e, l.low) }

-- what names a text is a text
pub text_is_utf8 : (wanted : List ℕ) (item : Option Item) → is_text wanted (text_of item) ≡ true → is_utf8 item ≡ true
text_is_utf8 wanted None h = absurd cc
text_is_utf8 wanted (Some (Utf8 text)) h = refl
text_is_utf8 wanted (Some (Integer n)) h = absurd cc
text_is_utf8 wanted (Some (Float n)) h = absurd cc
text_is_utf8 wanted (Some (Long n)) h = absurd cc
text_is_utf8 wanted (Some (Double n)) h = absurd cc
text_is_utf8 wanted (Some Upper) h = absurd cc
text_is_utf8 wanted (Some (Class n)) h = absurd cc
text_is_utf8 wanted (Some (Str n)) h = absurd cc
text_is_utf8 wanted (Some (Fieldref n m)) h = absurd cc
text_is_utf8 wanted (Some (Methodref n m)) h = absurd cc
text_is_utf8 wanted (Some (InterfaceMethodref n m)) h = absurd cc
text_is_utf8 wanted (Some (NameAndType n m)) h = absurd cc
text_is_utf8 wanted (Some (MethodHandle n m)) h = absurd cc
text_is_utf8 wanted (Some (MethodType n)) h = absurd cc
text_is_utf8 wanted (Some (InvokeDynamic n m)) h = absurd cc
