-- The row that the index leads to is that of the name.
use Rattle.std.proofs.Common.{◌≡◌, ◌≢◌, ℕ, zero, suc, ◌+◌, ◌<◌, List, [], ◌∷◌, Option, Some, None, length, get_or, drop, refl, ◌∙◌, subst, arith}
use Rattle.std.specs.Prelude.{All, IfSome}
use Rattle.std.specs.List.{AllByRecursion, HoldsAt}
use Rattle.std.specs.Borrow.{Bor}
use Rattle.std.proofs.lemmas.List.Elements.{All-from_recursion}
use Rattle.mvm_builtin.specs.Table.{Row, line_of, lines_of, until_class, row_from, named, rows, table}
use Rattle.mvm_builtin.specs.Index.{Entry, index, IsEntryOf}
use Rattle.mvm_builtin.specs.declared.table.Sort.{Sort}
use Rattle.mvm_builtin.proofs.Found.{EachRow, found_named}
use Rattle.mvm_builtin.proofs.Order.{named_name}

-- the row whose line stands at a place
pub row_at_place : (lines : List (Sort × Bor (List ℕ) × Bor (List ℕ))) (at : ℕ) (d : Sort × Bor (List ℕ) × Bor (List ℕ)) → at < length lines
    → row_from (drop at (lines_of lines)) ≡ Some (record { head = line_of (get_or lines at d); lines = until_class (lines_of (drop (at + 1) lines)) })
row_at_place [] at d h = absurd (omega arith)
row_at_place (line ∷ lines) zero d h = refl
row_at_place (line ∷ lines) (suc at) d h =
    let e : suc (at + 1) ≡ suc at + 1 = omega arith in
    subst (λ (n : ℕ). row_from (drop at (lines_of lines)) ≡ Some (record { head = line_of (get_or lines at d); lines = until_class (lines_of (drop n (line ∷ lines))) })) e (row_at_place lines at d (omega arith))

-- each entry leads to the row of its name
abbrev pub IsIndexed : Entry → Type 0
IsIndexed entry = named entry.0 rows ≡ row_from (drop entry.1 table)

-- a row's name has an entry
abbrev pub HasEntry : List ℕ → Type 0
HasEntry name = (at : ℕ) × (at < length index) × HoldsAt (λ entry. entry.0 ≡ name) index at

abbrev pub RowHasEntry : Row → Type 0
RowHasEntry row = HasEntry row.head.name

pub leads : (name : List ℕ) (line : ℕ) → AllByRecursion IsIndexed index → IsEntryOf index name line → named name rows ≡ row_from (drop line table)
leads name line all e =
    let d : Entry = ([], 0) in
    let is : IsIndexed (get_or index e.at d) = All-from_recursion IsIndexed index all e.at d e.within in
    let h = e.holds d in
    subst (λ (n : List ℕ). named n rows ≡ row_from (drop line table)) h.0 (subst (λ (n : ℕ). named (get_or index e.at d).0 rows ≡ row_from (drop n table)) h.1 is)

pub unnamed : (name : List ℕ) → EachRow RowHasEntry rows → All (λ (entry : Entry). entry.0 ≢ name) index → named name rows ≡ None
unnamed name each none = by (named name rows) refl (found_named RowHasEntry name rows each)
  where
    by : (found : Option Row) → named name rows ≡ found → IfSome found RowHasEntry → found ≡ None
    by None is e = refl
    by (Some row) is e =
        let d : Entry = ([], 0) in
        let same : row.head.name ≡ name = named_name name rows row is in
        absurd (none e.0 d e.1 (e.2 d ∙ same))
