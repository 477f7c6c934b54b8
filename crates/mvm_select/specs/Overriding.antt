-- When a method of a class overrides one of a class or interface from which it inherits (JVM Specification 5.4.5), for methods of one
-- name and descriptor: `flags` says of each class the access flags of its method, where it has one.
use Rattle.std.specs.Prelude.{◌≡◌, List, Bool, true, ◌&&◌, ◌||◌}
use Rattle.std.specs.List.{list_any}
use Rattle.mvm_layout.specs.declared.parts.Parts.{Parts}
use Rattle.mvm_set.specs.Family.{Family, file, Inherits}
use Rattle.mvm_set.specs.declared.own.OwnWalk.{OwnWalk}
use Rattle.mvm_select.specs.Methods.{Methods, is_public_or_protected, is_not_private}
use Rattle.mvm_select.specs.Names.{has_class, share_package}
use Rattle.mvm_set.specs.Names.{is_same}

-- The method of the class is not private; that of the base is public or protected, or it is not private and the class stands in the
-- base's package.
unfoldable pub may_override : Methods → Parts → Parts → Bool
may_override flags class base =
    is_not_private (flags class) && (is_public_or_protected (flags base) || (is_not_private (flags base) && share_package class base))

-- The method of a class overrides itself; that of a class from which it inherits, where it may; and what is overridden by one that it
-- overrides.
pub data Overrides (flags : Methods) : Family → Family → Type 0 where
  same : (one : Family) → Overrides flags one one
  direct : {one base : Family} → Inherits one base → may_override flags (file one) (file base) ≡ true → Overrides flags one base
  through : {one third base : Family} → Overrides flags one third → Overrides flags third base → Overrides flags one base

-- the method of a class overrides that of the class of this file
pub record OverridesThat (flags : Methods) (base : Parts) (one : Family) : Type 0 where
  pub last : Family
  pub is_base : is_same (file last) base ≡ true
  pub overridden : Overrides flags one last

-- ---- the same over a class's lists: at most one method between is ever needed, as `overriding_law` says

-- the method of the class may override that of the base, from which the class inherits
abbrev pub overrides_directly : Methods → OwnWalk → Parts → Bool
overrides_directly flags own base = may_override flags own.file base && has_class own.walk base

-- it overrides directly that of one of these, which overrides directly that of the base
unfoldable pub overrides_through : Methods → List OwnWalk → OwnWalk → Parts → Bool
overrides_through flags owns own base = list_any (λ third. overrides_directly flags third base && overrides_directly flags own third.file) owns

-- it overrides that of the base
unfoldable pub overrides : Methods → List OwnWalk → OwnWalk → Parts → Bool
overrides flags owns own base = is_same own.file base || (overrides_directly flags own base || overrides_through flags owns own base)
