-- The numbers of a class file fit their fields, since so many bytes spell them.
use Rattle.std.proofs.Common.{◌≡◌, ℕ, zero, suc, ◌+◌, ◌-◌, ◌<◌, ◌^◌, Bool, true, false, List, [], ◌∷◌, length, refl, sym, ap, subst, ◌∙◌, arith}
use Rattle.mvm_base.proofs.Bytes.{left_bytes, right_bytes}
use Rattle.mvm_base.specs.Bytes.{AreBytes}
use Rattle.std.specs.Prelude.{All, ◌==◌, ◌||◌}
use Rattle.std.specs.Int.{w32, w64, cast_signed}
use Rattle.std.proofs.lemmas.List.Elements.{All-nil, All-cons, All-from_get_or}
use Rattle.std.proofs.lemmas.Bool.{eq-eqb}
use borrow.Author.Gap.{read_sfits}
use Rattle.mvm_layout.specs.Format.{Format, number, followed, mapped, choose, refused, passing, spells_times, counted}
use Rattle.mvm_layout.specs.Entries.{text, index_of, indices_of, constant, reference, is_wide, tagged, item, takes_two, items, pool}
use Rattle.mvm_layout.specs.Layout.{row_of, row, rows, instructions, code_of, code}
use Rattle.mvm_layout.specs.declared.fault.ClassFault.{ClassFault}
use Rattle.mvm_layout.specs.declared.fault.ClassFault.TheVariants.{Pool}
use Rattle.mvm_layout.specs.declared.parts.Item.{Item}
use Rattle.mvm_layout.specs.declared.parts.Item.TheVariants.{Utf8, Integer, Float, Long, Double, Upper, Class, Str, Fieldref, Methodref, InterfaceMethodref, NameAndType, MethodHandle, MethodType, InvokeDynamic}
use Rattle.mvm_layout.specs.declared.info.CodeInfo.{CodeInfo}
use Rattle.mvm_classfile.specs.Kept.{IsU1, IsU2, ItemFits, PoolFits, RowFits, CodeFits}
use Rattle.mvm_classfile.proofs.Plain.{number_lt, passes}

-- ---- formats

-- it holds of each value that bytes spell
pub record Keeps {A : Type 0} (F : Format A) (P : A → Type 0) : Type 0 where
  pub of : (x : A) (at : ℕ) (text : List ℕ) → AreBytes text → F.spells x at text → P x

pub keeps_u1 : Keeps (number 1) IsU1
keeps_u1 = record { of = number_lt 1 }

pub keeps_u2 : Keeps (number 2) IsU2
keeps_u2 = record { of = number_lt 2 }

pub keeps_number : (n : ℕ) → Keeps (number n) (λ x. x < 256 ^ n)
keeps_number n = record { of = number_lt n }

pub keeps_followed : {A B : Type 0} (F : Format A) (G : A → Format B) (P : A → Type 0) (Q : A → B → Type 0) → Keeps F P → ((x : A) → Keeps (G x) (Q x)) → Keeps (followed F G) (λ x. P x.0 × Q x.0 x.1)
keeps_followed F G P Q f g = record { of = λ x at text b s. (f.of x.0 at s.0 (left_bytes text s.0 s.1 s.4 b) s.2, (g x.0).of x.1 (at + length s.0) s.1 (right_bytes text s.0 s.1 s.4 b) s.3) }

pub keeps_mapped : {A B : Type 0} (h : A → B) (F : Format A) (P : A → Type 0) (Q : B → Type 0) → Keeps F P → ((x : A) → P x → Q (h x)) → Keeps (mapped h F) Q
keeps_mapped h F P Q f q = record { of = λ y at text b s. subst Q s.2 (q s.0 (f.of s.0 at text b s.1)) }

pub keeps_passing : {A : Type 0} (test : A → Bool) (fault : A → ClassFault) (F : Format A) (P : A → Type 0) → Keeps F P → Keeps (passing test fault F) P
keeps_passing test fault F P f = record { of = λ y at text b s. subst P (passes (test s.0) s.0 y s.2) (f.of s.0 at text b s.1) }

keeps_choose : {A : Type 0} (c : Bool) (F G : Format A) (P : A → Type 0) → (c ≡ true → Keeps F P) → (c ≡ false → Keeps G P) → Keeps (choose c F G) P
keeps_choose true F G P f g = f refl
keeps_choose false F G P f g = g refl

keeps_refused : {A : Type 0} (fault : ClassFault) (P : A → Type 0) → Keeps (refused fault) P
keeps_refused fault P = record { of = λ x at text b s. absurd s }

times_kept : {A : Type 0} (F : Format A) (P : A → Type 0) → Keeps F P → (n : ℕ) (xs : List A) (at : ℕ) (text : List ℕ) → AreBytes text → spells_times F n xs at text → All P xs
times_kept F P f zero xs at text b s = subst (All P) (sym s.0) (All-nil P)
times_kept F P f (suc n) [] at text b s = absurd s
times_kept F P f (suc n) (x ∷ xs) at text b s =
    All-cons P x xs (f.of x at s.0 (left_bytes text s.0 s.1 s.4 b) s.2) (times_kept F P f n xs (at + length s.0) s.1 (right_bytes text s.0 s.1 s.4 b) s.3)

pub keeps_counted : {A : Type 0} (F : Format A) (P : A → Type 0) → Keeps F P → Keeps (counted F) (All P)
keeps_counted F P f = record { of = λ xs at text b s. subst (All P) s.2 (times_kept F P f s.0.0 s.0.1 (at + length s.1.0) s.1.1 (right_bytes text s.1.0 s.1.1 s.1.4 b) s.1.3) }

-- ---- entries

-- an entry that takes one index
abbrev Narrow : Item → Type 0
Narrow x = ItemFits x × (takes_two x ≡ false)

-- an entry, which is no long or double where it may not be one
abbrev Within : Bool → Item → Type 0
Within is_last x = ItemFits x × (is_last ≡ true → takes_two x ≡ false)

within : {F : Format Item} (is_last : Bool) → Keeps F Narrow → Keeps F (Within is_last)
within is_last f = record { of = λ x at t b s. (let n = f.of x at t b s in (n.0, λ e. n.1)) }

not_last : {F : Format Item} (is_last : Bool) → is_last ≡ false → Keeps F ItemFits → Keeps F (Within is_last)
not_last true e f = absurd cc
not_last false e f = record { of = λ x at t b s. (f.of x at t b s, λ e. absurd cc) }

keeps_text : (index : ℕ) → Keeps (mapped Utf8 (text index)) Narrow
unfolding text
keeps_text index = record { of = λ x at t b s. subst Narrow s.2 (subst (λ (u : List ℕ). Narrow (Utf8 u)) s.1.2 (s.1.1.3.1, refl)) }

keeps_integer : Keeps (mapped (λ n. Integer (cast_signed w32 n)) (number 4)) Narrow
keeps_integer = keeps_mapped (λ n. Integer (cast_signed w32 n)) (number 4) (λ n. n < 256 ^ 4) Narrow (keeps_number 4) (λ n h. (read_sfits w32 n, refl))

keeps_float : Keeps (mapped Float (number 4)) Narrow
keeps_float = keeps_mapped Float (number 4) (λ n. n < 256 ^ 4) Narrow (keeps_number 4) (λ n h. (omega arith, refl))

fits : {F : Format Item} → Keeps F Narrow → Keeps F ItemFits
fits f = record { of = λ x at t b s. (f.of x at t b s).0 }

keeps_constant : (tag : ℕ) → Keeps (constant tag) ItemFits
unfolding constant
keeps_constant tag =
    keeps_choose (tag == 3) _ _ ItemFits (λ e. fits keeps_integer) (λ e.
    keeps_choose (tag == 4) _ _ ItemFits (λ e. fits keeps_float) (λ e.
    keeps_choose (tag == 5) _ _ ItemFits (λ e. keeps_mapped (λ n. Long (cast_signed w64 n)) (number 8) (λ n. n < 256 ^ 8) ItemFits (keeps_number 8) (λ n h. read_sfits w64 n)) (λ e.
    keeps_mapped Double (number 8) (λ n. n < 256 ^ 8) ItemFits (keeps_number 8) (λ n h. omega arith))))

neither : (a b : Bool) → (a || b) ≡ true → a ≡ false → b ≡ false → ⊥
neither true b h e f = absurd cc
neither false true h e f = absurd cc
neither false false h e f = absurd cc

keeps_narrow : (tag : ℕ) → (tag == 3 || tag == 4) ≡ true → Keeps (constant tag) Narrow
unfolding constant
keeps_narrow tag h =
    keeps_choose (tag == 3) _ _ Narrow (λ e. keeps_integer) (λ not3.
    keeps_choose (tag == 4) _ _ Narrow (λ e. keeps_float) (λ not4. absurd (neither _ _ h not3 not4)))

keeps_index : (h : ℕ → Item) → ((n : ℕ) → IsU2 n → Narrow (h n)) → Keeps (index_of h) Narrow
keeps_index h q = keeps_mapped h (number 2) IsU2 Narrow keeps_u2 q

keeps_indices : (h : ℕ → ℕ → Item) → ((n m : ℕ) → IsU2 n × IsU2 m → Narrow (h n m)) → Keeps (indices_of h) Narrow
keeps_indices h q =
    keeps_mapped (λ (x : ℕ × ℕ). h x.0 x.1) (followed (number 2) (λ first. number 2)) (λ x. IsU2 x.0 × IsU2 x.1) Narrow
    (keeps_followed (number 2) (λ first. number 2) IsU2 (λ first. IsU2) keeps_u2 (λ first. keeps_u2)) (λ x f. q x.0 x.1 f)

keeps_handle : Keeps (mapped (λ x. MethodHandle x.0 x.1) (followed (number 1) (λ kind. number 2))) Narrow
keeps_handle =
    keeps_mapped (λ (x : ℕ × ℕ). MethodHandle x.0 x.1) (followed (number 1) (λ kind. number 2)) (λ x. IsU1 x.0 × IsU2 x.1) Narrow
    (keeps_followed (number 1) (λ kind. number 2) IsU1 (λ kind. IsU2) keeps_u1 (λ kind. keeps_u2)) (λ x f. (f, refl))

keeps_reference : (index tag : ℕ) → Keeps (reference index tag) Narrow
unfolding reference
keeps_reference index tag =
    keeps_choose (tag == 7) _ _ Narrow (λ e. keeps_index Class (λ n f. (f, refl))) (λ e.
    keeps_choose (tag == 8) _ _ Narrow (λ e. keeps_index Str (λ n f. (f, refl))) (λ e.
    keeps_choose (tag == 9) _ _ Narrow (λ e. keeps_indices Fieldref (λ n m f. (f, refl))) (λ e.
    keeps_choose (tag == 10) _ _ Narrow (λ e. keeps_indices Methodref (λ n m f. (f, refl))) (λ e.
    keeps_choose (tag == 11) _ _ Narrow (λ e. keeps_indices InterfaceMethodref (λ n m f. (f, refl))) (λ e.
    keeps_choose (tag == 12) _ _ Narrow (λ e. keeps_indices NameAndType (λ n m f. (f, refl))) (λ e.
    keeps_choose (tag == 15) _ _ Narrow (λ e. keeps_handle) (λ e.
    keeps_choose (tag == 16) _ _ Narrow (λ e. keeps_index MethodType (λ n f. (f, refl))) (λ e.
    keeps_choose (tag == 18) _ _ Narrow (λ e. keeps_indices InvokeDynamic (λ n m f. (f, refl))) (λ e. keeps_refused (Pool index) Narrow)))))))))

keeps_tagged : (index : ℕ) (is_last : Bool) (tag : ℕ) → Keeps (tagged index is_last tag) (Within is_last)
unfolding tagged
keeps_tagged index is_last tag =
    keeps_choose (tag == 1) _ _ (Within is_last) (λ e. within is_last (keeps_text index)) (λ e.
    keeps_choose (is_wide tag) _ _ (Within is_last) (λ e. keeps_choose is_last _ _ (Within is_last) (λ l. keeps_refused (Pool index) (Within is_last)) (λ l. not_last is_last l (keeps_constant tag))) (λ e.
    keeps_choose (tag == 3 || tag == 4) _ _ (Within is_last) (λ h. within is_last (keeps_narrow tag h)) (λ h. within is_last (keeps_reference index tag))))

item_kept : (index : ℕ) (is_last : Bool) (x : Item) (at : ℕ) (t : List ℕ) → AreBytes t → (item index is_last).spells x at t → Within is_last x
unfolding item
item_kept index is_last x at t b s = subst (Within is_last) s.2 ((keeps_tagged index is_last s.0.0).of s.0.1 (at + length s.1.0) s.1.1 (right_bytes t s.1.0 s.1.1 s.1.4 b) s.1.3)

-- the first may be an upper entry, but not if there is none
items_kept : (is_upper : Bool) (index n : ℕ) (xs : List Item) (at : ℕ) (t : List ℕ) → AreBytes t → (n ≡ 0 → is_upper ≡ false) → (items is_upper index n).spells xs at t → PoolFits is_upper xs
items_kept is_upper index zero xs at t b e s = subst (λ (z : List Item). PoolFits is_upper z) (sym s.0) (subst (λ (u : Bool). PoolFits u []) (sym (e refl)) tt)
items_kept true index (suc n) xs at t b e s =
    let upper : s.0.0 ≡ Upper = s.1.2.0 in
    let more : PoolFits (takes_two s.0.0) s.0.1 = items_kept (takes_two s.0.0) (index + 1) n s.0.1 (at + length s.1.0) s.1.1 (right_bytes t s.1.0 s.1.1 s.1.4 b) (λ z. ap takes_two upper) s.1.3 in
    subst (PoolFits true) s.2 (upper, subst (λ (x : Item). PoolFits (takes_two x) s.0.1) upper more)
items_kept false index (suc n) xs at t b e s =
    let one = item_kept index (n == 0) s.0.0 at s.1.0 (left_bytes t s.1.0 s.1.1 s.1.4 b) s.1.2 in
    let more = items_kept (takes_two s.0.0) (index + 1) n s.0.1 (at + length s.1.0) s.1.1 (right_bytes t s.1.0 s.1.1 s.1.4 b) (λ z. one.1 (eq-eqb n 0 z)) s.1.3 in
    subst (PoolFits false) s.2 (one.0, more)

pub pool_kept : (xs : List Item) (at : ℕ) (t : List ℕ) → AreBytes t → pool.spells xs at t → PoolFits false xs
unfolding pool
pool_kept xs at t b s = subst (PoolFits false) s.2 (items_kept false 1 (s.0.0 - 1) s.0.1 (at + length s.1.0) s.1.1 (right_bytes t s.1.0 s.1.1 s.1.4 b) (λ e. refl) s.1.3)

-- ---- code

keeps_row : Keeps row RowFits
unfolding row
keeps_row =
    keeps_mapped row_of (followed (number 2) (λ start. followed (number 2) (λ end. followed (number 2) (λ handler. number 2)))) (λ x. IsU2 x.0 × (IsU2 x.1.0 × (IsU2 x.1.1.0 × IsU2 x.1.1.1))) RowFits
    (keeps_followed (number 2) (λ start. followed (number 2) (λ end. followed (number 2) (λ handler. number 2))) IsU2 (λ start y. IsU2 y.0 × (IsU2 y.1.0 × IsU2 y.1.1)) keeps_u2 (λ start.
    keeps_followed (number 2) (λ end. followed (number 2) (λ handler. number 2)) IsU2 (λ end y. IsU2 y.0 × IsU2 y.1) keeps_u2 (λ end.
    keeps_followed (number 2) (λ handler. number 2) IsU2 (λ handler. IsU2) keeps_u2 (λ handler. keeps_u2))))
    (λ x f. record { start = f.0; end = f.1.0; handler = f.1.1.0; catch_class = f.1.1.1 })

keeps_instructions : Keeps instructions (All IsU1)
unfolding instructions
keeps_instructions = record {
  of = λ xs at t b s. (
      let h = s.1.1 in
      let here : AreBytes h.1 = right_bytes t h.0 h.1 h.4 b in
      let same : AreBytes s.0 = subst AreBytes (h.3.0 ∙ s.1.2) here in
      subst (All IsU1) (passes _ s.0 xs s.2) (All-from_get_or IsU1 s.0 0 (λ i l. same i)));
}

pub code_kept : (info : CodeInfo) (at : ℕ) (t : List ℕ) → AreBytes t → code.spells info at t → CodeFits info.code
unfolding code rows
code_kept info at t b s =
    let x = s.0 in
    let h = s.1 in
    let b1 = right_bytes t h.0 h.1 h.4 b in
    let i = h.3 in
    let b2 = right_bytes h.1 i.0 i.1 i.4 b1 in
    let j = i.3 in
    let b3 = right_bytes i.1 j.0 j.1 j.4 b2 in
    let k = j.3 in
    let made : CodeFits (code_of x).code = record {
      max_stack = keeps_u2.of x.0 at h.0 (left_bytes t h.0 h.1 h.4 b) h.2;
      max_locals = keeps_u2.of x.1.0 at i.0 (left_bytes h.1 i.0 i.1 i.4 b1) i.2;
      bytes = keeps_instructions.of x.1.1.0 ((at + length h.0) + length i.0) j.0 (left_bytes i.1 j.0 j.1 j.4 b2) j.2;
      rows = (keeps_counted row RowFits keeps_row).of x.1.1.1.0 (((at + length h.0) + length i.0) + length j.0) k.0 (left_bytes j.1 k.0 k.1 k.4 b3) k.2;
    } in
    subst (λ (z : CodeInfo). CodeFits z.code) s.2 made
