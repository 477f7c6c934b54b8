-- The bytes of a name, by the number of its source; shelves without classes.
use Rattle.std.proofs.Common.{◌≡◌, ℕ, zero, suc, true, false, cond, List, [], ◌∷◌, ◌++◌, Option, Some, None, refl, ap, ◌∙◌}
use Rattle.std.specs.Prelude.{slice_get}
use Rattle.std.specs.Option.{option_map}
use Rattle.std.specs.Str.{bytes_eq}
use Rattle.std.proofs.lemmas.Option.{slice_get-map}
use Rattle.mvm_set.specs.Set.{source_of}
use Rattle.mvm_set.specs.declared.class.Lineage.{Lineage}
use Rattle.mvm_set.specs.declared.set.SetRow.{SetRow}
use Rattle.mvm_table.specs.Contents.{shelf_of, AreEmpty}
use Rattle.mvm_table.specs.Files.{File, bytes_of, bytes_at, bytes_from, bytes_by_place, files_of, all_files, or_no_files, files_in}
use Rattle.mvm_table.specs.NameMap.{Rows}
use Rattle.mvm_table.specs.declared.source.SourceRow.{SourceRow}

bytes_of-files : (sources : List SourceRow) (rows : List SetRow) (name : List ℕ) → bytes_of name (files_of sources rows) ≡ bytes_from sources (source_of name rows)
bytes_of-files sources [] name = refl
bytes_of-files sources (row ∷ rows) name =
    elim (bytes_eq row.name name) as (λ b. cond b (Some (bytes_at sources row.source)) (bytes_of name (files_of sources rows)) ≡ bytes_from sources (cond b (Some row.source) (source_of name rows)))
    [ true ↦ refl | false ↦ bytes_of-files sources rows name ]

pub bytes_in_table : (sources : List SourceRow) (sets : List (List SetRow)) (set : ℕ) (name : List ℕ)
    → bytes_of name (files_in set (all_files sources sets)) ≡ bytes_by_place sources name (slice_get sets set)
bytes_in_table sources sets set name =
    ap (λ (o : Option (List File)). bytes_of name (or_no_files o)) (slice_get-map (files_of sources) sets set) ∙ by (slice_get sets set)
  where
    by : (found : Option (List SetRow)) → bytes_of name (or_no_files (option_map (files_of sources) found)) ≡ bytes_by_place sources name found
    by (Some rows) = bytes_of-files sources rows name
    by None = refl

pub empty_more : (shelves : List (Rows Lineage)) → AreEmpty shelves → AreEmpty (shelves ++ [] ∷ [])
empty_more shelves e = λ set. by shelves set (e set)
  where
    by : (xs : List (Rows Lineage)) (set : ℕ) → shelf_of set xs ≡ [] → shelf_of set (xs ++ [] ∷ []) ≡ []
    by [] zero e = refl
    by [] (suc n) e = refl
    by (x ∷ xs) zero e = e
    by (x ∷ xs) (suc n) e = by xs n e
