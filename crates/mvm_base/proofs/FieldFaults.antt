-- What the fault of a field descriptor says of all field descriptors.
use Rattle.std.proofs.Common.{◌≡◌, ℕ, suc, ◌+◌, ◌<◌, Bool, true, false, ◌||◌, ◌==◌, cond, eqb, ltb, List, [], ◌∷◌, ◌++◌, length, replicate, Option, Some, None, Result, Ok, Err, refl, sym, ap, subst, ◌∙◌, append_assoc, append-nil, arith}
use Rattle.std.proofs.lemmas.Bool.Decides.{nat_tests}
use Rattle.mvm_base.specs.Place.{Place}
use Rattle.mvm_base.specs.Answers.{◌>>=◌}
use Rattle.mvm_base.specs.Descriptor.{spelled_base, spelled_field, IsBase, with_letter, is_misplaced, name_in, plain, object, plain_or, object_in, base_in, with_dims, field_in, ended, field_of}
use Rattle.mvm_base.specs.DescriptorFaults.{IsFieldText, IsBeginning, HasFault}
use Rattle.mvm_base.specs.declared.descriptor.Base.{Base}
use Rattle.mvm_base.specs.declared.descriptor.Base.TheVariants.{Int, Object}
use Rattle.mvm_base.specs.declared.descriptor.FieldShape.{FieldShape}
use Rattle.mvm_base.specs.declared.descriptor.DescFault.{DescFault}
use Rattle.mvm_base.specs.declared.descriptor.DescFault.TheVariants.{Empty, BadLetter, Open, Trailing, Float}
use Rattle.mvm_base.proofs.Names.{has_parts, parts_are}
use Rattle.mvm_base.proofs.Descriptors.{parts_more, misplaced_not, field_takes, field_again}
use Rattle.mvm_base.proofs.Told.{Misplaced, Floating, Told, AtEnd, first_letter, lifted, told_fault}

-- ---- names

pub record NameText (is_open : Bool) (text : List ℕ) : Type 0 where
  pub name : List ℕ
  pub parts : has_parts is_open name ≡ true
  pub is : text ≡ name ++ 59 ∷ []

abbrev NameRefuses : Bool → ℕ → DescFault → List ℕ → Type 0
NameRefuses is_open at fault text = name_in is_open at text ≡ Err fault

begins_name : (is_open : Bool) → IsBeginning (NameText is_open) []
begins_name true = record { more = 97 ∷ 59 ∷ []; goes_on = record { name = 97 ∷ []; parts = refl; is = refl } }
begins_name false = record { more = 59 ∷ []; goes_on = record { name = []; parts = refl; is = refl } }

with_letter_err : (letter : ℕ) (r : Result (List ℕ × Place) DescFault) (fault : DescFault) → with_letter letter r ≡ Err fault → r ≡ Err fault
with_letter_err letter (Ok x) fault e = absurd cc
with_letter_err letter (Err f) fault e = e

no_float : (is_open : Bool) (letter : ℕ) → is_misplaced is_open letter ≡ true → (eqb letter 70 || eqb letter 68) ≡ false
no_float true letter m = grind (arith, nat_tests)
no_float false letter m = grind (arith, nat_tests)

name_told : (is_open : Bool) (at : ℕ) (text : List ℕ) (fault : DescFault) → name_in is_open at text ≡ Err fault → Told (NameText is_open) (NameRefuses is_open at fault) at text fault
name_told is_open at [] fault e = let k : fault ≡ Open = cc in AtEnd k (begins_name is_open)
name_told is_open at (letter ∷ text) fault e = by (is_misplaced is_open letter) (eqb letter 59) refl refl e (λ h. name_told (eqb letter 47) (at + 1) text fault h)
  where
    wider : is_misplaced is_open letter ≡ false → eqb letter 59 ≡ false → (t : List ℕ) → NameText (eqb letter 47) t → IsBeginning (NameText is_open) ((letter ∷ []) ++ t)
    wider m s t n = record { more = []; goes_on = record { name = letter ∷ n.name; parts = parts_more is_open (eqb letter 47) letter n.name (misplaced_not is_open letter m s) refl n.parts; is = append-nil (letter ∷ t) ∙ ap (λ (z : List ℕ). letter ∷ z) n.is } }

    refuse : is_misplaced is_open letter ≡ false → eqb letter 59 ≡ false → (t : List ℕ) → name_in (eqb letter 47) (at + 1) t ≡ Err fault → name_in is_open at (letter ∷ t) ≡ Err fault
    refuse m s t h = let k : with_letter letter (name_in (eqb letter 47) (at + 1) t) ≡ Err fault = rw h refl in rw (m, s) k

    by : (a b : Bool) → is_misplaced is_open letter ≡ a → eqb letter 59 ≡ b → cond a (Err (BadLetter at)) (cond b (Ok ([], record { at = at + 1; rest = text })) (with_letter letter (name_in (eqb letter 47) (at + 1) text))) ≡ Err fault → (name_in (eqb letter 47) (at + 1) text ≡ Err fault → Told (NameText (eqb letter 47)) (NameRefuses (eqb letter 47) (at + 1) fault) (at + 1) text fault) → Told (NameText is_open) (NameRefuses is_open at fault) at (letter ∷ text) fault
    by true b m s h all =
        let k : fault ≡ BadLetter at = cc in
        first_letter (NameText is_open) (NameRefuses is_open at fault) at letter text fault (begins_name is_open) (λ more. rw (m, k) refl) (Misplaced k (no_float is_open letter m))
    by false true m s h all = absurd cc
    by false false m s h all =
        let k = with_letter_err letter (name_in (eqb letter 47) (at + 1) text) fault h in
        lifted (NameText (eqb letter 47)) (NameText is_open) (NameRefuses (eqb letter 47) (at + 1) fault) (NameRefuses is_open at fault) (letter ∷ []) text (at + 1) at fault (omega arith) (wider m s) (λ t same r. refuse m s t r) (all k)

-- ---- fields

-- what may follow so many dimensions
pub record FieldFrom (dims : ℕ) (text : List ℕ) : Type 0 where
  pub more : ℕ
  pub base : Base
  pub few : more + dims < 256
  pub fits : IsBase base
  pub is : text ≡ replicate more 91 ++ spelled_base base

abbrev pub FieldRefuses : ℕ → ℕ → DescFault → List ℕ → Type 0
FieldRefuses dims at fault text = field_in dims at text ≡ Err fault

begins_field : (dims : ℕ) → dims < 256 → IsBeginning (FieldFrom dims) []
begins_field dims l = record { more = 73 ∷ []; goes_on = record { more = 0; base = Int; few = omega (arith, l); fits = tt; is = refl } }

begins_type : (dims : ℕ) → dims < 256 → IsBeginning (FieldFrom dims) ([] ++ 73 ∷ [])
begins_type dims l = record { more = []; goes_on = record { more = 0; base = Int; few = omega (arith, l); fits = tt; is = refl } }

field_is : (dims at letter : ℕ) (text : List ℕ) → eqb letter 91 ≡ false → field_in dims at (letter ∷ text) ≡ with_dims dims (base_in at letter text)
field_is dims at letter text h = rw h refl

base_is : (at letter : ℕ) (text : List ℕ) (p : Option Base) → plain letter ≡ p → base_in at letter text ≡ plain_or p at letter text
unfolding base_in
base_is at letter text p e = ap (λ (q : Option Base). plain_or q at letter text) e

object_is : (at letter : ℕ) (text : List ℕ) (a b : Bool) → eqb letter 76 ≡ a → (eqb letter 70 || eqb letter 68) ≡ b → object_in at letter text ≡ cond a (object (name_in true (at + 1) text)) (cond b (Err Float) (Err (BadLetter at)))
object_is at letter text a b e f =
    ap (λ (x : Bool). cond x (object (name_in true (at + 1) text)) (cond (eqb letter 70 || eqb letter 68) (Err Float) (Err (BadLetter at)))) e
    ∙ ap (λ (x : Bool). cond a (object (name_in true (at + 1) text)) (cond x (Err Float) (Err (BadLetter at)))) f

-- a letter that is no bracket and no plain base
other_is : (dims at letter : ℕ) (text : List ℕ) (a b : Bool) → eqb letter 91 ≡ false → plain letter ≡ None → eqb letter 76 ≡ a → (eqb letter 70 || eqb letter 68) ≡ b → field_in dims at (letter ∷ text) ≡ with_dims dims (cond a (object (name_in true (at + 1) text)) (cond b (Err Float) (Err (BadLetter at))))
other_is dims at letter text a b h p e f = field_is dims at letter text h ∙ ap (λ (r : Result (Base × Place) DescFault). with_dims dims r) (base_is at letter text None p ∙ object_is at letter text a b e f)

name_err : (dims : ℕ) (r : Result (List ℕ × Place) DescFault) (fault : DescFault) → with_dims dims (object r) ≡ Err fault → r ≡ Err fault
name_err dims (Ok x) fault e = absurd cc
name_err dims (Err f) fault e = let k : f ≡ fault = cc in rw k refl

base_told : (dims at letter : ℕ) (text : List ℕ) (fault : DescFault) → dims < 256 → eqb letter 91 ≡ false → field_in dims at (letter ∷ text) ≡ Err fault → Told (FieldFrom dims) (FieldRefuses dims at fault) at (letter ∷ text) fault
base_told dims at letter text fault l h e = by (plain letter) refl
  where
    wider : letter ≡ 76 → (t : List ℕ) → NameText true t → IsBeginning (FieldFrom dims) ((letter ∷ []) ++ t)
    wider w t n = record { more = []; goes_on = record { more = 0; base = Object n.name; few = omega (arith, l); fits = sym (parts_are n.name) ∙ n.parts; is = append-nil (letter ∷ t) ∙ rw (w, n.is) refl } }

    refuse : (b : Bool) → plain letter ≡ None → eqb letter 76 ≡ true → (eqb letter 70 || eqb letter 68) ≡ b → (t : List ℕ) → name_in true (at + 1) t ≡ Err fault → field_in dims at (letter ∷ t) ≡ Err fault
    refuse b p a f t r = let k : with_dims dims (object (name_in true (at + 1) t)) ≡ Err fault = rw r refl in other_is dims at letter t true b h p a f ∙ k

    other : (a b : Bool) → plain letter ≡ None → eqb letter 76 ≡ a → (eqb letter 70 || eqb letter 68) ≡ b → with_dims dims (cond a (object (name_in true (at + 1) text)) (cond b (Err Float) (Err (BadLetter at)))) ≡ Err fault → Told (FieldFrom dims) (FieldRefuses dims at fault) at (letter ∷ text) fault
    other true b p a f k =
        let n : letter ≡ 76 = grind (arith, nat_tests) in
        let r = name_told true (at + 1) text fault (name_err dims (name_in true (at + 1) text) fault k) in
        lifted (NameText true) (FieldFrom dims) (NameRefuses true (at + 1) fault) (FieldRefuses dims at fault) (letter ∷ []) text (at + 1) at fault (omega arith) (wider n) (λ t same x. refuse b p a f t x) r
    other false true p a f k =
        let g : fault ≡ Float = cc in
        first_letter (FieldFrom dims) (FieldRefuses dims at fault) at letter text fault (begins_field dims l) (λ more. other_is dims at letter more false true h p a f ∙ rw g refl) (Floating g f (begins_type dims l))
    other false false p a f k =
        let g : fault ≡ BadLetter at = cc in
        first_letter (FieldFrom dims) (FieldRefuses dims at fault) at letter text fault (begins_field dims l) (λ more. other_is dims at letter more false false h p a f ∙ rw g refl) (Misplaced g f)

    by : (p : Option Base) → plain letter ≡ p → Told (FieldFrom dims) (FieldRefuses dims at fault) at (letter ∷ text) fault
    by (Some b) p =
        let k : with_dims dims (plain_or (Some b) at letter text) ≡ Err fault = sym (field_is dims at letter text h ∙ ap (λ (r : Result (Base × Place) DescFault). with_dims dims r) (base_is at letter text (Some b) p)) ∙ e in
        absurd cc
    by None p = other (eqb letter 76) (eqb letter 70 || eqb letter 68) p refl refl (sym (other_is dims at letter text (eqb letter 76) (eqb letter 70 || eqb letter 68) h p refl refl) ∙ e)

pub field_told : (dims at : ℕ) (text : List ℕ) (fault : DescFault) → dims < 256 → field_in dims at text ≡ Err fault → Told (FieldFrom dims) (FieldRefuses dims at fault) at text fault
field_told dims at [] fault l e = let k : fault ≡ Open = cc in AtEnd k (begins_field dims l)
field_told dims at (letter ∷ text) fault l e = by (eqb letter 91) (ltb dims 255) refl refl e (λ m h. field_told (dims + 1) (at + 1) text fault m h)
  where
    wider : letter ≡ 91 → (t : List ℕ) → FieldFrom (dims + 1) t → IsBeginning (FieldFrom dims) ((letter ∷ []) ++ t)
    wider n t g = record { more = []; goes_on = record { more = suc g.more; base = g.base; few = omega (arith, g.few); fits = g.fits; is = append-nil (letter ∷ t) ∙ rw (n, g.is) refl } }

    refuse : eqb letter 91 ≡ true → ltb dims 255 ≡ true → (t : List ℕ) → field_in (dims + 1) (at + 1) t ≡ Err fault → field_in dims at (letter ∷ t) ≡ Err fault
    refuse h k t r = rw (h, k) r

    by : (a b : Bool) → eqb letter 91 ≡ a → ltb dims 255 ≡ b → cond a (cond b (field_in (dims + 1) (at + 1) text) (Err (BadLetter at))) (with_dims dims (base_in at letter text)) ≡ Err fault → (dims + 1 < 256 → field_in (dims + 1) (at + 1) text ≡ Err fault → Told (FieldFrom (dims + 1)) (FieldRefuses (dims + 1) (at + 1) fault) (at + 1) text fault) → Told (FieldFrom dims) (FieldRefuses dims at fault) at (letter ∷ text) fault
    by true true h k f all =
        let m : dims + 1 < 256 = grind (arith, nat_tests) in
        let n : letter ≡ 91 = grind (arith, nat_tests) in
        lifted (FieldFrom (dims + 1)) (FieldFrom dims) (FieldRefuses (dims + 1) (at + 1) fault) (FieldRefuses dims at fault) (letter ∷ []) text (at + 1) at fault (omega arith) (wider n) (λ t same r. refuse h k t r) (all m f)
    by true false h k f all =
        let g : fault ≡ BadLetter at = cc in
        let n : (eqb letter 70 || eqb letter 68) ≡ false = grind (arith, nat_tests) in
        first_letter (FieldFrom dims) (FieldRefuses dims at fault) at letter text fault (begins_field dims l) (λ more. rw (h, k, g) refl) (Misplaced g n)
    by false b h k f all = base_told dims at letter text fault l h (field_is dims at letter text h ∙ f)

-- ---- whole texts

pub field_text : (t : List ℕ) → FieldFrom 0 t → IsFieldText t
field_text t f = record { field = record { dims = f.more; base = f.base }; fits = (omega (arith, f.few), f.fits); is = f.is }

-- a whole descriptor is read, whatever follows it
pub record FieldReads (t more : List ℕ) (field : FieldShape) : Type 0 where
  pub at : ℕ
  pub is : field_in 0 0 (t ++ more) ≡ Ok (field, record { at = at; rest = more })

pub field_reads_as : (t more : List ℕ) (f : IsFieldText t) → FieldReads t more f.field
field_reads_as t more f =
    let s = field_again f.field.dims 0 f.field.dims 0 f.field.base more (omega arith) f.fits.0 f.fits.1 in
    let e : t ++ more ≡ replicate f.field.dims 91 ++ (spelled_base f.field.base ++ more) = rw (f.is, append_assoc (replicate f.field.dims 91) (spelled_base f.field.base) more) refl in
    record { at = s.at; is = ap (λ (u : List ℕ). field_in 0 0 u) e ∙ s.is }

field_reads : (fault : DescFault) (t more : List ℕ) → IsFieldText t → FieldRefuses 0 0 fault (t ++ more) → ⊥
field_reads fault t more f r = let a = (field_reads_as t more f).is in cc

pub field_fault : (text : List ℕ) (fault : DescFault) → field_of text ≡ Err fault → HasFault IsFieldText text fault
unfolding field_of
field_fault [] fault e = let k : fault ≡ Empty = cc in subst (λ (f : DescFault). HasFault IsFieldText [] f) (sym k) refl
field_fault (letter ∷ text) fault e =
    let z : (length (letter ∷ text) == 0) ≡ false = grind (arith, nat_tests) in
    by (field_in 0 0 (letter ∷ text)) refl (rw z at e)
  where
    beyond : (x : FieldShape × Place) (y : ℕ) (rest : List ℕ) → field_in 0 0 (letter ∷ text) ≡ Ok x → x.1.rest ≡ y ∷ rest → fault ≡ Trailing → HasFault IsFieldText (letter ∷ text) fault
    beyond x y rest h r k =
        let t = field_takes 0 0 (letter ∷ text) x (omega arith) h in
        let m : t.more ≡ x.0.dims = omega (arith, t.dims_are) in
        let f : letter ∷ text ≡ spelled_field x.0 ++ x.1.rest = t.front ∙ rw (m, append_assoc (replicate x.0.dims 91) (spelled_base x.0.base) x.1.rest) refl in
        subst (λ (f : DescFault). HasFault IsFieldText (letter ∷ text) f) (sym k) (record { front = spelled_field x.0; more = x.1.rest; text_is = f; is_some = λ n. cc; is_whole = record { field = x.0; fits = (t.few, t.fits); is = refl } })

    at_end : (x : FieldShape × Place) (rest : List ℕ) → field_in 0 0 (letter ∷ text) ≡ Ok x → x.1.rest ≡ rest → cond (length rest == 0) (Ok x.0) (Err Trailing) ≡ Err fault → HasFault IsFieldText (letter ∷ text) fault
    at_end x [] h r k = absurd cc
    at_end x (y ∷ rest) h r k =
        let z : (length (y ∷ rest) == 0) ≡ false = grind (arith, nat_tests) in
        let w = rw z at k in
        let g : fault ≡ Trailing = cc in
        beyond x y rest h r g

    by : (r : Result (FieldShape × Place) DescFault) → field_in 0 0 (letter ∷ text) ≡ r → (r >>= ended) ≡ Err fault → HasFault IsFieldText (letter ∷ text) fault
    by (Ok x) h k = at_end x x.1.rest h refl k
    by (Err f) h k =
        let g : f ≡ fault = cc in
        let e : field_in 0 0 (letter ∷ text) ≡ Err fault = rw (h, g) refl in
        let told = lifted (FieldFrom 0) IsFieldText (FieldRefuses 0 0 fault) (FieldRefuses 0 0 fault) [] (letter ∷ text) 0 0 fault (omega arith) (λ t w. record { more = []; goes_on = subst IsFieldText (sym (append-nil t)) (field_text t w) }) (λ t same r. r) (field_told 0 0 (letter ∷ text) fault (omega arith) e) in
        told_fault IsFieldText (FieldRefuses 0 0 fault) (letter ∷ text) fault (λ n. cc) e (field_reads fault) told
