-- The members of a class file can be counted in 16 bits.
use Rattle.std.proofs.Common.{◌≡◌, ℕ, ◌<◌, ◌^◌, true, IsTrue, length, arith}
use Rattle.std.specs.Prelude.{nat_lt}
use Rattle.std.proofs.lemmas.Bool.{and_parts}
use Rattle.std.proofs.lemmas.Bool.Decides.{nat_tests}
use Rattle.mvm_layout.specs.declared.parts.Parts.{Parts}
use Rattle.mvm_classfile.specs.Writing.{lists_fit, is_countable}

few : (n m : ℕ) → nat_lt n m ≡ true → n < m
few n m e = grind (arith, nat_tests)

pub few_fields : (parts : Parts) → IsTrue (is_countable parts) → length parts.fields < 2 ^ 16
unfolding is_countable lists_fit
few_fields parts h =
    let a = and_parts _ _ h in
    let b = and_parts _ _ a.0 in
    let c = and_parts _ _ b.0 in
    let d = and_parts _ _ c.0 in
    few (length parts.fields) (2 ^ 16) (and_parts _ _ d.0).1

pub few_methods : (parts : Parts) → IsTrue (is_countable parts) → length parts.methods < 2 ^ 16
unfolding is_countable lists_fit
few_methods parts h =
    let a = and_parts _ _ h in
    let b = and_parts _ _ a.0 in
    let c = and_parts _ _ b.0 in
    few (length parts.methods) (2 ^ 16) (and_parts _ _ c.0).1
