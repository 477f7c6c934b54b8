-- Sources as they are kept: equal bytes once.
use Rattle.std.specs.Prelude.{◌≡◌, ◌==◌, ◌+◌, ◌⊎◌, ℕ, List, [], ◌∷◌, map, slice_get, Option, Some, None, if◌then◌else◌}
use Rattle.std.specs.Option.{option_map}
use Rattle.std.specs.Str.{bytes_eq}
use Rattle.mvm_table.specs.declared.source.SourceRow.{SourceRow}

-- the place of the first source of these bytes, counted on from a place
abbrev pub place_from : ℕ → List ℕ → List SourceRow → Option ℕ
place_from at bytes [] = None
place_from at bytes (source ∷ sources) = if bytes_eq source.bytes bytes then Some at else place_from (at + 1) bytes sources

abbrev pub or_zero : Option ℕ → ℕ
or_zero (Some place) = place
or_zero None = 0

-- of one of the sources, the place of the first that has its bytes
abbrev pub first_of : List SourceRow → SourceRow → ℕ
first_of sources source = or_zero (place_from 0 source.bytes sources)

abbrev pub no_bytes : SourceRow
no_bytes = record { bytes = [] }

-- the source of a place is left where it is the first of its bytes
abbrev pub left : List SourceRow → ℕ → SourceRow → SourceRow
left sources place source = if first_of sources source == place then source else no_bytes

abbrev pub AreLeft : List SourceRow → List SourceRow → Type 0
AreLeft sources rows = (place : ℕ) → slice_get rows place ≡ option_map (left sources place) (slice_get sources place)

-- no two sources that are kept have equal bytes, but for those without bytes
abbrev pub AreApart : List SourceRow → Type 0
AreApart rows = (i j : ℕ) (one other : SourceRow) → slice_get rows i ≡ Some one → slice_get rows j ≡ Some other → one.bytes ≡ other.bytes → (one.bytes ≡ []) ⊎ (i ≡ j)

abbrev pub or_no_bytes : Option SourceRow → SourceRow
or_no_bytes (Some source) = source
or_no_bytes None = no_bytes

-- the sources that were handed in, by the places of those that are kept
abbrev pub told : List SourceRow → List ℕ → List SourceRow
told rows firsts = map (λ first. or_no_bytes (slice_get rows first)) firsts
