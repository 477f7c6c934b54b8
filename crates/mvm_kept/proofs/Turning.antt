-- A field that is kept, for objects of another class.
use Rattle.std.proofs.Common.{◌≡◌, ℕ, Some, true, Result}
use Rattle.mvm_member.specs.Members.{MemberName, field_named}
use Rattle.mvm_isolate.specs.Numbered.{Numbered, look_of, name_at, IsClass}
use Rattle.mvm_isolate.specs.Types.{of_class, suits}
use Rattle.mvm_isolate.specs.declared.stop.Stop.{Stop}
use Rattle.mvm_kept.specs.Kept.{HasInstance}
use Rattle.mvm_kept.specs.declared.entry.InstanceAt.{InstanceAt}

pub turned : (n : Numbered) (at : InstanceAt) (receiver : ℕ) (definition : Result MemberName Stop) → IsClass n receiver
    → ((member : MemberName) → field_named at.field ≡ Some member → suits (look_of n) (of_class (name_at n receiver)) (of_class member.class) ≡ true)
    → HasInstance n at definition
    → HasInstance n (record { field = at.field; mirror = at.mirror; placed = record { place = at.placed.place; receiver = receiver } }) definition
turned n at receiver definition receives suited has = record {
  member = has.member;
  is_member = has.is_member;
  is_entry = has.is_entry;
  there = has.there;
  is_class = has.is_class;
  receives = receives;
  has_place = record { placed = has.has_place.placed; suited = suited has.member has.is_member };
}
