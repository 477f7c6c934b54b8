use Rattle.mvm_member.proofs.Apart.{declared_at, declared_named, method_within}
use Rattle.mvm_member.proofs.laws.place_law.Goals as goal

pub returns : goal.returns
returns c = record {
  within = method_within;
  declared = declared_at;
  named = declared_named;
}
