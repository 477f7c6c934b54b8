use Rattle.std.proofs.Common.{◌++◌, List, ap, ◌∙◌}
use Rattle.mvm_set.specs.Seen.{is_seen, joined, unmet}
use Rattle.mvm_set.specs.declared.own.OwnWalk.{OwnWalk}
use Rattle.mvm_set.proofs.Seen.{none_seen}
use Rattle.mvm_set.proofs.Single.{begun_none}
use Rattle.mvm_set.proofs.join.each_once.Goals as goal

pub returns : goal.returns
returns c =
    c.from_vec.ensures
    ∙ c.in_ok-add_lists.ensures
    ∙ ap (λ (owns : List OwnWalk). owns ++ unmet (is_seen c.in_ok-repeats.repeats) (is_seen c.new-seen.result) (joined c.args.lists.now)) c.new-owns.ensures.items
    ∙ begun_none (is_seen c.in_ok-repeats.repeats) (is_seen c.new-seen.result) (λ other. none_seen c.new-seen.result c.new-seen.ensures.empty other) (joined c.args.lists.now)
