-- A source more.
use Rattle.std.proofs.Common.{◌≡◌, ℕ, zero, suc, ◌<◌, List, [], ◌∷◌, ◌++◌, length, refl, ap, ◌∙◌, arith}
use Rattle.std.specs.Prelude.{All}
use Rattle.std.proofs.lemmas.List.{map-append}
use Rattle.std.proofs.lemmas.List.Elements.{All-head, All-tail}
use Rattle.mvm_set.specs.declared.set.SetRow.{SetRow}
use Rattle.mvm_table.specs.Files.{File, bytes_at, file_of, files_of}
use Rattle.mvm_table.specs.declared.source.SourceRow.{SourceRow}
use Rattle.mvm_classes.specs.SetFiles.{IsPlace}

bytes_before : (sources : List SourceRow) (more : SourceRow) (place : ℕ) → place < length sources → bytes_at (sources ++ more ∷ []) place ≡ bytes_at sources place
bytes_before [] more place w = absurd (omega (arith, w))
bytes_before (source ∷ sources) more zero w = refl
bytes_before (source ∷ sources) more (suc place) w = bytes_before sources more place (omega (arith, w))

bytes_there : (sources : List SourceRow) (more : SourceRow) → bytes_at (sources ++ more ∷ []) (length sources) ≡ more.bytes
bytes_there [] more = refl
bytes_there (source ∷ sources) more = bytes_there sources more

pub files_before : (sources : List SourceRow) (more : SourceRow) (rows : List SetRow) → All (IsPlace sources) rows → files_of (sources ++ more ∷ []) rows ≡ files_of sources rows
files_before sources more [] a = refl
files_before sources more (row ∷ rows) a =
    ap (λ (bytes : List ℕ). record { name = row.name; bytes = bytes } ∷ files_of (sources ++ more ∷ []) rows) (bytes_before sources more row.source (All-head (IsPlace sources) row rows a))
    ∙ ap (λ (files : List File). file_of sources row ∷ files) (files_before sources more rows (All-tail (IsPlace sources) row rows a))

pub files_more : (sources : List SourceRow) (more : SourceRow) (rows : List SetRow) (row : SetRow) → All (IsPlace sources) rows → row.source ≡ length sources
    → files_of (sources ++ more ∷ []) (rows ++ row ∷ []) ≡ files_of sources rows ++ record { name = row.name; bytes = more.bytes } ∷ []
files_more sources more rows row a e =
    map-append (file_of (sources ++ more ∷ [])) rows (row ∷ [])
    ∙ ap (λ (files : List File). files ++ file_of (sources ++ more ∷ []) row ∷ []) (files_before sources more rows a)
    ∙ ap (λ (bytes : List ℕ). files_of sources rows ++ record { name = row.name; bytes = bytes } ∷ []) (ap (bytes_at (sources ++ more ∷ [])) e ∙ bytes_there sources more)
