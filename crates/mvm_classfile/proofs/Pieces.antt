-- Attributes, members and code by their pieces: what fits where it is spelled, and what spells what is built anew.
use Rattle.std.proofs.Common.{◌≡◌, ℕ, zero, suc, ◌+◌, ◌<◌, ◌≤◌, ◌^◌, Bool, true, false, ◌&&◌, Some, List, [], ◌∷◌, ◌++◌, length, refl, sym, ap, subst, ◌∙◌, length-append, append_assoc, arith}
use Rattle.mvm_base.proofs.Bytes.{left_bytes, right_bytes}
use Rattle.mvm_base.specs.Bytes.{AreBytes}
use Rattle.std.specs.Prelude.{nat_le}
use Rattle.std.specs.List.{flat_map}
use Rattle.std.proofs.lemmas.Bool.{leb-true}
use Rattle.mvm_layout.specs.Infos.{AttributeParts}
use Rattle.mvm_layout.specs.Format.{Format, bytes, number, followed, if_passing, spells_times, counted}
use Rattle.mvm_layout.specs.Entries.{second}
use Rattle.mvm_layout.specs.Layout.{content, attribute_of, attribute, attributes, member_of, member, interfaces, row_of, row, rows, instructions, code_of, code}
use Rattle.mvm_layout.specs.declared.parts.Code.{Code}
use Rattle.mvm_layout.specs.declared.parts.Row.{Row}
use Rattle.mvm_layout.specs.declared.info.MemberInfo.{MemberInfo}
use Rattle.mvm_layout.specs.declared.info.CodeInfo.{CodeInfo}
use Rattle.mvm_classfile.specs.Writing.{u2, u4, written_attribute, written_row, written_code}
use Rattle.mvm_classfile.proofs.Plain.{both_hold, passes, Plain, number_lt, number_again, plain_u2, plain_u4, plain_bytes, plain_followed, plain_mapped, plain_passing_at, plain_counted, counted_lt}

-- it holds of each of them
abbrev pub Each : {A : Type 0} → (A → Type 0) → List A → Type 0
Each P [] = Unit {0}
Each P (x ∷ xs) = P x × Each P xs

times_each : {A : Type 0} (F : Format A) (P : A → Type 0) → ((x : A) (at : ℕ) (text : List ℕ) → AreBytes text → F.spells x at text → P x)
    → (n : ℕ) (xs : List A) (at : ℕ) (text : List ℕ) → AreBytes text → spells_times F n xs at text → Each P xs
times_each F P p zero xs at text b s = subst (λ (z : List _). Each P z) (sym s.0) tt
times_each F P p (suc n) [] at text b s = absurd s
times_each F P p (suc n) (x ∷ xs) at text b s =
    (p x at s.0 (left_bytes text s.0 s.1 s.4 b) s.2, times_each F P p n xs (at + length s.0) s.1 (right_bytes text s.0 s.1 s.4 b) s.3)

pub counted_each : {A : Type 0} (F : Format A) (P : A → Type 0) → ((x : A) (at : ℕ) (text : List ℕ) → AreBytes text → F.spells x at text → P x)
    → (xs : List A) (at : ℕ) (text : List ℕ) → AreBytes text → (counted F).spells xs at text → Each P xs
counted_each F P p xs at text b s =
    subst (λ (z : List _). Each P z) s.2 (times_each F P p s.0.0 s.0.1 (at + length s.1.0) s.1.1 (right_bytes text s.1.0 s.1.1 s.1.4 b) s.1.3)

pub counted_again : {A : Type 0} (F : Format A) (n : ℕ) (xs : List A) (at : ℕ) (text : List ℕ) → n < 256 ^ 2 → spells_times F n xs (at + 2) text → (counted F).spells xs at (u2 n ++ text)
counted_again F n xs at text h s = ((n, xs), (u2 n, text, number_again 2 n at h, s, refl), refl)

-- what is written of a value where it was spelled spells it anywhere
pub again : {A : Type 0} (F : Format A) (w : A → List ℕ) → Plain F w → (x : A) (at other : ℕ) (text : List ℕ) → AreBytes text → F.spells x at text → F.spells x other (w x)
again F w f x at other text b s = subst (λ (t : List ℕ). F.spells x other t) (f.written x at text b s) (f.moves x at other text s)

-- ---- attributes

pub record AttributeFits (a : AttributeParts) : Type 0 where
  pub name : a.name < 256 ^ 2
  pub bytes : AreBytes a.content
  pub short : length a.content < 256 ^ 4

attribute_fits : (a : AttributeParts) (at : ℕ) (text : List ℕ) → AreBytes text → attribute.spells a at text → AttributeFits a
unfolding attribute
attribute_fits a at text b s =
    let x = s.0 in
    let h = s.1.1 in
    let two = right_bytes text h.0 h.1 h.4 b in
    let inner = h.3 in
    let n = inner.1 in
    let made : AttributeFits (attribute_of x) = record {
      name = number_lt 2 x.1.0 at h.0 (left_bytes text h.0 h.1 h.4 b) h.2;
      bytes = subst AreBytes (n.3.0 ∙ inner.2) (right_bytes h.1 n.0 n.1 n.4 two);
      short = subst (λ (z : List ℕ). length z < 256 ^ 4) inner.2 (subst (λ (k : ℕ). k < 256 ^ 4) (sym n.3.1) (number_lt 4 inner.0.0 (at + length h.0) n.0 (left_bytes h.1 n.0 n.1 n.4 two) n.2));
    } in
    subst AttributeFits s.2 made

pub attribute_again : (name : ℕ) (text : List ℕ) (at : ℕ) → name < 256 ^ 2 → length text < 256 ^ 4 → attribute.spells (record { at = at; name = name; content = text }) at (written_attribute name text)
unfolding attribute
attribute_again name text at h l =
    let inner : content.spells text (at + 2) (u4 (length text) ++ text) = ((length text, text), (u4 (length text), text, number_again 4 (length text) (at + 2) l, (refl, refl), refl), refl) in
    ((at, (name, text)), (refl, (u2 name, u4 (length text) ++ text, number_again 2 name at h, inner, refl)), refl)

-- ---- members

pub record MemberFits (m : MemberInfo) : Type 0 where
  pub flags : m.flags < 256 ^ 2
  pub name : m.name < 256 ^ 2
  pub desc : m.desc < 256 ^ 2
  pub attributes : Each AttributeFits m.attributes

pub member_fits : (m : MemberInfo) (at : ℕ) (text : List ℕ) → AreBytes text → member.spells m at text → MemberFits m
unfolding member attributes
member_fits m at text b s =
    let x = s.0.1 in
    let h = s.1.1 in
    let b1 = right_bytes text h.0 h.1 h.4 b in
    let i = h.3 in
    let b2 = right_bytes h.1 i.0 i.1 i.4 b1 in
    let j = i.3 in
    let b3 = right_bytes i.1 j.0 j.1 j.4 b2 in
    let made : MemberFits (member_of s.0) = record {
      flags = number_lt 2 x.0 at h.0 (left_bytes text h.0 h.1 h.4 b) h.2;
      name = number_lt 2 x.1.0 (at + length h.0) i.0 (left_bytes h.1 i.0 i.1 i.4 b1) i.2;
      desc = number_lt 2 x.1.1.0 ((at + length h.0) + length i.0) j.0 (left_bytes i.1 j.0 j.1 j.4 b2) j.2;
      attributes = counted_each attribute AttributeFits attribute_fits x.1.1.1 (((at + length h.0) + length i.0) + length j.0) j.1 b3 j.3;
    } in
    subst MemberFits s.2 made

pub member_again : (flags name desc at : ℕ) (all : List AttributeParts) (text : List ℕ) → flags < 256 ^ 2 → name < 256 ^ 2 → desc < 256 ^ 2 → attributes.spells all (((at + 2) + 2) + 2) text
    → member.spells (record { at = at; flags = flags; name = name; desc = desc; attributes = all }) at (u2 flags ++ (u2 name ++ (u2 desc ++ text)))
unfolding member
member_again flags name desc at all text f n d s = (
  (at, (flags, (name, (desc, all)))),
  (
    refl,
    (
      u2 flags,
      u2 name ++ (u2 desc ++ text),
      number_again 2 flags at f,
      (
        u2 name,
        u2 desc ++ text,
        number_again 2 name (at + 2) n,
        (u2 desc, text, number_again 2 desc ((at + 2) + 2) d, s, refl),
        refl,
      ),
      refl,
    ),
  ),
  refl,
)

-- ---- code

row_plain : Plain row written_row
unfolding row
row_plain =
    plain_mapped row_of _ (λ x. u2 x.0 ++ (u2 x.1.0 ++ (u2 x.1.1.0 ++ u2 x.1.1.1))) written_row
    (plain_followed (number 2) _ u2 (λ start y. u2 y.0 ++ (u2 y.1.0 ++ u2 y.1.1)) plain_u2 (λ start.
    plain_followed (number 2) _ u2 (λ end y. u2 y.0 ++ u2 y.1) plain_u2 (λ end.
    plain_followed (number 2) _ u2 (λ handler y. u2 y) plain_u2 (λ handler. plain_u2))))
    (λ x at text b s. refl)

pub rows_plain : Plain rows (λ xs. u2 (length xs) ++ flat_map written_row xs)
unfolding rows
rows_plain = plain_counted row written_row row_plain

pub interfaces_plain : Plain interfaces (λ xs. u2 (length xs) ++ flat_map u2 xs)
unfolding interfaces
interfaces_plain = plain_counted (number 2) u2 plain_u2

content_plain : Plain content (λ text. u4 (length text) ++ text)
content_plain =
    plain_mapped second (followed (number 4) bytes) (λ x. u4 x.0 ++ x.1) (λ text. u4 (length text) ++ text)
    (plain_followed (number 4) bytes u4 (λ n text. text) plain_u4 plain_bytes)
    (λ x at text b s. ap (λ (n : ℕ). u4 n ++ x.1) (sym s.3.1))

instructions_plain : Plain instructions (λ text. u4 (length text) ++ text)
unfolding instructions
instructions_plain = plain_passing_at _ _ content (λ text. u4 (length text) ++ text) content_plain

pub record CodeFits (c : Code) (old : List ℕ) : Type 0 where
  pub spelled : (at : ℕ) → code.spells (record { code = c; attributes = [] }) at (written_code c)
  pub short : length (written_code c) ≤ length old
  pub rows : length c.rows < 256 ^ 2
  pub bytes : length c.bytes ≤ 65535

-- 1 to 65,535 bytes
abbrev pub IsCodeLength : List ℕ → Type 0
IsCodeLength bytes = (1 ≤ length bytes) × (length bytes ≤ 65535)

length_passed : (passing : Bool) (old new : List ℕ) → (nat_le 1 (length old) && nat_le (length old) 65535) ≡ passing → if_passing passing old ≡ Some new → IsCodeLength new
length_passed true old new h e = let b = both_hold _ _ h in subst IsCodeLength (passes true old new e) (leb-true _ _ b.0, leb-true _ _ b.1)
length_passed false old new h e = absurd cc

instructions_length : (new : List ℕ) (at : ℕ) (text : List ℕ) → instructions.spells new at text → IsCodeLength new
unfolding instructions
instructions_length new at text s = length_passed _ s.0 new refl s.2

pub code_length : (info : CodeInfo) (at : ℕ) (text : List ℕ) → code.spells info at text → IsCodeLength info.code.bytes
unfolding code
code_length info at text s = let j = s.1.3.3 in subst (λ (z : CodeInfo). IsCodeLength z.code.bytes) s.2 (instructions_length _ _ j.0 j.2)

pub no_attributes : (at : ℕ) → attributes.spells [] at (u2 0)
unfolding attributes
no_attributes at = counted_again attribute 0 [] at [] (omega arith) (refl, refl)

pub at_least_two : (xs : List AttributeParts) (at : ℕ) (text : List ℕ) → attributes.spells xs at text → 2 ≤ length text
unfolding attributes
at_least_two xs at text s = let e : length text ≡ length s.1.0 + length s.1.1 = ap length s.1.4 ∙ length-append s.1.0 s.1.1 in omega (arith, e, s.1.2.0)

rows_lt : (xs : List Row) (at : ℕ) (text : List ℕ) → AreBytes text → rows.spells xs at text → length xs < 256 ^ 2
unfolding rows
rows_lt xs at text b s = counted_lt row xs at text b s

pub interfaces_lt : (xs : List ℕ) (at : ℕ) (text : List ℕ) → AreBytes text → interfaces.spells xs at text → length xs < 256 ^ 2
unfolding interfaces
interfaces_lt xs at text b s = counted_lt (number 2) xs at text b s

regroup : (a b c d e f g : List ℕ) → a ++ (b ++ ((c ++ d) ++ ((e ++ f) ++ g))) ≡ a ++ b ++ c ++ d ++ e ++ f ++ g
regroup a b c d e f g = simp append_assoc

lengths : (a b c d e : List ℕ) → length (a ++ (b ++ (c ++ (d ++ e)))) ≡ length a + (length b + (length c + (length d + length e)))
lengths a b c d e = simp length-append

no_longer : (a b c d e t m n o p : ℕ) → t ≡ a + m → m ≡ b + n → n ≡ c + o → o ≡ d + p → a ≡ 2 → b ≡ 2 → 2 ≤ p → e ≡ 2 + (2 + (c + (d + 2))) → e ≤ t
no_longer a b c d e t m n o p h1 h2 h3 h4 h5 h6 h7 h8 = omega arith

pub code_fits : (info : CodeInfo) (at : ℕ) (text : List ℕ) → AreBytes text → code.spells info at text → CodeFits info.code text
unfolding code written_code
code_fits info at text b s =
    let x = s.0 in
    let h = s.1 in
    let b1 = right_bytes text h.0 h.1 h.4 b in
    let i = h.3 in
    let b2 = right_bytes h.1 i.0 i.1 i.4 b1 in
    let j = i.3 in
    let b3 = right_bytes i.1 j.0 j.1 j.4 b2 in
    let k = j.3 in
    let grouped = regroup (u2 x.0) (u2 x.1.0) (u4 (length x.1.1.0)) x.1.1.0 (u2 (length x.1.1.1.0)) (flat_map written_row x.1.1.1.0) (u2 0) in
    let spelled : (place : ℕ) → code.spells (record { code = (code_of x).code; attributes = [] }) place (written_code (code_of x).code) = λ place. subst (λ (t : List ℕ). code.spells (record { code = (code_of x).code; attributes = [] }) place t) grouped (
      (x.0, (x.1.0, (x.1.1.0, (x.1.1.1.0, [])))),
      (
        u2 x.0,
        _,
        again (number 2) u2 plain_u2 x.0 at place h.0 (left_bytes text h.0 h.1 h.4 b) h.2,
        (
          u2 x.1.0,
          _,
          again (number 2) u2 plain_u2 x.1.0 (at + length h.0) (place + 2) i.0 (left_bytes h.1 i.0 i.1 i.4 b1) i.2,
          (
            u4 (length x.1.1.0) ++ x.1.1.0,
            _,
            again instructions _ instructions_plain x.1.1.0 _ _ j.0 (left_bytes i.1 j.0 j.1 j.4 b2) j.2,
            (u2 (length x.1.1.1.0) ++ flat_map written_row x.1.1.1.0, u2 0, again rows _ rows_plain x.1.1.1.0 _ _ k.0 (left_bytes j.1 k.0 k.1 k.4 b3) k.2, no_attributes _, refl),
            refl,
          ),
          refl,
        ),
        refl,
      ),
      refl,
    ) in
    let e1 : length h.0 ≡ 2 = h.2.0 in
    let e2 : length i.0 ≡ 2 = i.2.0 in
    let e3 : length j.0 ≡ length (u4 (length x.1.1.0) ++ x.1.1.0) = ap length (instructions_plain.written x.1.1.0 _ j.0 (left_bytes i.1 j.0 j.1 j.4 b2) j.2) in
    let e4 : length k.0 ≡ length (u2 (length x.1.1.1.0) ++ flat_map written_row x.1.1.1.0) = ap length (rows_plain.written x.1.1.1.0 _ k.0 (left_bytes j.1 k.0 k.1 k.4 b3) k.2) in
    let m = at_least_two x.1.1.1.1 _ k.1 k.3 in
    let whole : length (written_code (code_of x).code) ≡ 2 + (2 + (length (u4 (length x.1.1.0) ++ x.1.1.0) + (length (u2 (length x.1.1.1.0) ++ flat_map written_row x.1.1.1.0) + 2))) = sym (ap length grouped) ∙ lengths (u2 x.0) (u2 x.1.0) (u4 (length x.1.1.0) ++ x.1.1.0) (u2 (length x.1.1.1.0) ++ flat_map written_row x.1.1.1.0) (u2 0) in
    let short : length (written_code (code_of x).code) ≤ length text = no_longer (length h.0) (length i.0) _ _ _ (length text) (length h.1) (length i.1) (length j.1) (length k.1)
    (ap length h.4 ∙ length-append h.0 h.1) (ap length i.4 ∙ length-append i.0 i.1) (ap length j.4 ∙ length-append j.0 j.1 ∙ ap (λ (z : ℕ). z + length j.1) e3) (ap length k.4 ∙ length-append k.0 k.1 ∙ ap (λ (z : ℕ). z + length k.1) e4) e1 e2 m whole in
    subst (λ (z : CodeInfo). CodeFits z.code text) s.2 (record { spelled = spelled; short = short; rows = rows_lt x.1.1.1.0 (((at + length h.0) + length i.0) + length j.0) k.0 (left_bytes j.1 k.0 k.1 k.4 b3) k.2; bytes = (instructions_length x.1.1.0 _ j.0 j.2).1 })
