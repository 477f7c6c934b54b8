-- The lines of a constant pool make it.
use Rattle.std.proofs.Common.{◌≡◌, ℕ, ◌+◌, ◌<◌, Bool, true, false, List, [], ◌∷◌, ◌++◌, length, Result, Ok, refl, sym, ap, subst, ◌∙◌, arith, append_assoc, length-append}
use Rattle.std.specs.Prelude.{pos}
use Rattle.std.proofs.lemmas.Bool.{lt-ltb, eq-eqb}
use Rattle.mvm_layout.specs.Entries.{takes_two}
use Rattle.mvm_layout.specs.declared.parts.Item.{Item}
use Rattle.mvm_layout.specs.declared.parts.Item.TheVariants.{Utf8, Integer, Float, Long, Double, Upper, Class, Str, Fieldref, Methodref, InterfaceMethodref, NameAndType, MethodHandle, MethodType, InvokeDynamic}
use Rattle.mvm_classfile.specs.Kept.{ItemFits, PoolFits}
use Rattle.mvm_statement.specs.declared.fault.AsmKind.{AsmKind}
use Rattle.mvm_statement.specs.declared.statement.Statement.{Statement}
use Rattle.mvm_statement.specs.declared.statement.Statement.TheVariants.{Entry}
use Rattle.mvm_listing.specs.declared.phase.Phase.TheVariants as phases
use Rattle.mvm_listing.specs.Range.{fits_value}
use Rattle.mvm_listing.specs.Constants.{item_of, with_upper}
use Rattle.mvm_listing.specs.Assembly.{State, turn, act}
use Rattle.mvm_listing.specs.Disassembly.{value_of, entry_line, entries}
use Rattle.mvm_listing.proofs.Runs.{through}
use Rattle.mvm_listing.proofs.Tests.{and_again, append_none}
use Rattle.mvm_listing.proofs.Numbers.{u1_fits, u2_fits, u4_fits, u8_fits, i4_fits, i8_fits}

-- an entry as its line gives it
pub record Given (item : Item) : Type 0 where
  pub fits : fits_value (value_of item) ≡ true
  pub same : item_of (value_of item) ≡ item
  pub line : (n : ℕ) → entry_line n item ≡ Entry (pos n) (value_of item) ∷ []

pub given : (item : Item) → ItemFits item → Given item
given (Utf8 text) h = record { fits = refl; same = refl; line = λ n. refl }
given (Integer n) h = record { fits = i4_fits n h; same = refl; line = λ n. refl }
given (Float bits) h = record { fits = u4_fits bits h; same = refl; line = λ n. refl }
given (Long n) h = record { fits = i8_fits n h; same = refl; line = λ n. refl }
given (Double bits) h = record { fits = u8_fits bits h; same = refl; line = λ n. refl }
given Upper h = absurd h
given (Class n) h = record { fits = u2_fits n h; same = refl; line = λ n. refl }
given (Str n) h = record { fits = u2_fits n h; same = refl; line = λ n. refl }
given (Fieldref n m) h = record { fits = and_again _ _ (u2_fits n h.0) (u2_fits m h.1); same = refl; line = λ n. refl }
given (Methodref n m) h = record { fits = and_again _ _ (u2_fits n h.0) (u2_fits m h.1); same = refl; line = λ n. refl }
given (InterfaceMethodref n m) h = record { fits = and_again _ _ (u2_fits n h.0) (u2_fits m h.1); same = refl; line = λ n. refl }
given (NameAndType n m) h = record { fits = and_again _ _ (u2_fits n h.0) (u2_fits m h.1); same = refl; line = λ n. refl }
given (MethodHandle kind n) h = record { fits = and_again _ _ (u1_fits kind h.0) (u2_fits n h.1); same = refl; line = λ n. refl }
given (MethodType n) h = record { fits = u2_fits n h; same = refl; line = λ n. refl }
given (InvokeDynamic n m) h = record { fits = and_again _ _ (u2_fits n h.0) (u2_fits m h.1); same = refl; line = λ n. refl }

abbrev reached : State → Result State AsmKind
reached s = Ok s

-- behind the lines of these entries
abbrev pub in_pool : State → List Item → State
in_pool s pool = record s { phase = phases.Pool; parts = record s.parts { pool = pool } }

entry_turn : (line : ℕ) (item : Item) (pool : List Item) (s : State) → Given item → length pool + length (with_upper item) < 65535
    → turn line (Entry (pos (length pool + 1)) (value_of item)) (in_pool s pool) ≡ Ok (in_pool s (pool ++ with_upper item))
unfolding turn act
entry_turn line item pool s g h =
    rw (u2_fits (length pool + 1) (omega arith), g.fits, eq-eqb (length pool + 1) (length pool + 1) refl, g.same, lt-ltb (length pool + length (with_upper item)) 65535 h) refl

-- the line of an entry, and more lines
first : (line n : ℕ) (item : Item) (rest : List Statement) (s t : State) → Given item → turn line (Entry (pos n) (value_of item)) s ≡ Ok t → through line (entry_line n item ++ rest) s ≡ through (line + 1) rest t
first line n item rest s t g h = rw (g.line n, h) refl

-- what the entries of a pool make, behind others
abbrev Makes : ℕ → List Item → List Item → State → Type 0
Makes line pool more s = through line (entries (length pool + 1) more) (in_pool s pool) ≡ Ok (in_pool s (pool ++ more))

narrow_back : (line : ℕ) (pool : List Item) (item : Item) (more : List Item) (s : State) → Given item → takes_two item ≡ false → length pool + 1 < 65535 → Makes (line + 1) (pool ++ item ∷ []) more s → Makes line pool (item ∷ more) s
narrow_back line pool item more s g t h later =
    let n : length (pool ++ item ∷ []) ≡ length pool + 1 = length-append pool (item ∷ []) in
    let u : with_upper item ≡ item ∷ [] = rw t refl in
    let e : (pool ++ item ∷ []) ++ more ≡ pool ++ item ∷ more = append_assoc pool (item ∷ []) more in
    let l : length pool + length (with_upper item) < 65535 = subst (λ (ys : List Item). length pool + length ys < 65535) (sym u) h in
    let here : turn line (Entry (pos (length pool + 1)) (value_of item)) (in_pool s pool) ≡ Ok (in_pool s (pool ++ item ∷ [])) =
    subst (λ (ys : List Item). turn line (Entry (pos (length pool + 1)) (value_of item)) (in_pool s pool) ≡ Ok (in_pool s (pool ++ ys))) u (entry_turn line item pool s g l) in
    first line (length pool + 1) item (entries ((length pool + 1) + 1) more) (in_pool s pool) (in_pool s (pool ++ item ∷ [])) g here
    ∙ subst (λ (m : ℕ). through (line + 1) (entries (m + 1) more) (in_pool s (pool ++ item ∷ [])) ≡ Ok (in_pool s ((pool ++ item ∷ []) ++ more))) n later
    ∙ ap (λ (z : List Item). reached (in_pool s z)) e

wide_back : (line : ℕ) (pool : List Item) (item : Item) (more : List Item) (s : State) → Given item → takes_two item ≡ true → length pool + 2 < 65535 → Makes (line + 1) (pool ++ item ∷ Upper ∷ []) more s → Makes line pool (item ∷ Upper ∷ more) s
wide_back line pool item more s g t h later =
    let n : length (pool ++ item ∷ Upper ∷ []) ≡ (length pool + 1) + 1 = length-append pool (item ∷ Upper ∷ []) ∙ omega arith in
    let u : with_upper item ≡ item ∷ Upper ∷ [] = rw t refl in
    let e : (pool ++ item ∷ Upper ∷ []) ++ more ≡ pool ++ item ∷ Upper ∷ more = append_assoc pool (item ∷ Upper ∷ []) more in
    let l : length pool + length (with_upper item) < 65535 = subst (λ (ys : List Item). length pool + length ys < 65535) (sym u) h in
    let here : turn line (Entry (pos (length pool + 1)) (value_of item)) (in_pool s pool) ≡ Ok (in_pool s (pool ++ item ∷ Upper ∷ [])) =
    subst (λ (ys : List Item). turn line (Entry (pos (length pool + 1)) (value_of item)) (in_pool s pool) ≡ Ok (in_pool s (pool ++ ys))) u (entry_turn line item pool s g l) in
    first line (length pool + 1) item (entries ((length pool + 1) + 1) (Upper ∷ more)) (in_pool s pool) (in_pool s (pool ++ item ∷ Upper ∷ [])) g here
    ∙ subst (λ (m : ℕ). through (line + 1) (entries (m + 1) more) (in_pool s (pool ++ item ∷ Upper ∷ [])) ≡ Ok (in_pool s ((pool ++ item ∷ Upper ∷ []) ++ more))) n later
    ∙ ap (λ (z : List Item). reached (in_pool s z)) e

entries_back : (line : ℕ) (pool more : List Item) (s : State) → length pool + length more < 65535 → PoolFits false more → Makes line pool more s
entries_back line pool [] s h f = ap (λ (z : List Item). reached (in_pool s z)) (sym (append_none pool))
entries_back line pool (item ∷ []) s h f = by (takes_two item) refl f.1
  where
    by : (b : Bool) → takes_two item ≡ b → PoolFits b [] → Makes line pool (item ∷ []) s
    by false t p = narrow_back line pool item [] s (given item f.0) t (omega arith) (ap (λ (z : List Item). reached (in_pool s z)) (sym (append_none (pool ++ item ∷ []))))
    by true t p = absurd p
entries_back line pool (item ∷ (x ∷ more)) s h f =
    by (takes_two item) refl f.1
    (λ p. entries_back (line + 1) (pool ++ item ∷ []) (x ∷ more) s (omega (arith, length-append pool (item ∷ []))) p)
    (λ p. entries_back (line + 1) (pool ++ item ∷ Upper ∷ []) more s (omega (arith, length-append pool (item ∷ Upper ∷ []))) p)
  where
    by : (b : Bool) → takes_two item ≡ b → PoolFits b (x ∷ more) → (PoolFits false (x ∷ more) → Makes (line + 1) (pool ++ item ∷ []) (x ∷ more) s) → (PoolFits false more → Makes (line + 1) (pool ++ item ∷ Upper ∷ []) more s)
        → Makes line pool (item ∷ (x ∷ more)) s
    by false t p one two = narrow_back line pool item (x ∷ more) s (given item f.0) t (omega arith) (one p)
    by true t p one two = subst (λ (z : Item). Makes line pool (item ∷ (z ∷ more)) s) (sym p.0) (wide_back line pool item more s (given item f.0) t (omega arith) (two p.1))

pub pool_back : (line : ℕ) (pool : List Item) (s : State) → length pool < 65535 → PoolFits false pool → through line (entries 1 pool) (in_pool s []) ≡ Ok (in_pool s pool)
pool_back line pool s h f = entries_back line [] pool s (omega arith) f
