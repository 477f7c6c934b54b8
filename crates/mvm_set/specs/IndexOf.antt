-- The index of a file's members.
use Rattle.std.specs.Prelude.{ℕ, List, Option}
use Rattle.mvm_layout.specs.declared.parts.Parts.{Parts}
use Rattle.mvm_set.specs.Index.{place_of, IsIndex}
use Rattle.mvm_set.specs.Set.{look}
use Rattle.mvm_set.specs.declared.index.Index.{Index}

abbrev pub field_in : Index → List ℕ → List ℕ → Option ℕ
field_in index name desc = place_of index.fields (look index.texts (λ key. key.items) name) (look index.texts (λ key. key.items) desc)

abbrev pub method_in : Index → List ℕ → List ℕ → Option ℕ
method_in index name desc = place_of index.methods (look index.texts (λ key. key.items) name) (look index.texts (λ key. key.items) desc)

-- it has the places of the fields and of the methods of the file
pub record IsIndexOf (file : Parts) (index : Index) : Type 0 where
  pub fields : IsIndex 0 (look index.texts (λ key. key.items)) index.fields file.pool file.fields
  pub methods : IsIndex 0 (look index.texts (λ key. key.items)) index.methods file.pool file.methods
