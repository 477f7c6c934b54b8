use Rattle.std.proofs.Common.{◌++◌, List, sym, ap, ◌∙◌}
use Rattle.std.specs.Prelude.{◌||◌}
use Rattle.mvm_shape.specs.Members.{same_text}
use Rattle.mvm_set.specs.Names.{own_name}
use Rattle.mvm_set.specs.Seen.{is_seen, joined, unmet}
use Rattle.mvm_set.specs.declared.own.OwnWalk.{OwnWalk}
use Rattle.mvm_set.proofs.Seen.{none_seen}
use Rattle.mvm_set.proofs.Single.{begun, single_more, not_left, met_right}
use Rattle.mvm_set.proofs.join.others_than.Goals as goal

pub add_lists-requires : goal.add_lists-requires
add_lists-requires c =
    single_more (is_seen c.in_ok-repeats.repeats) (is_seen c.meet_file.new.names)
    (λ other e. not_left (is_seen c.in_ok-repeats.repeats other) (same_text (own_name c.args.file.now) other) (sym (c.in_ok-meet_file.ensures other) ∙ e))
    (joined c.args.lists.now) c.in_ok-repeats.ensures

pub returns : goal.returns
returns c =
    c.in_ok-add_lists.ensures
    ∙ ap (λ (owns : List OwnWalk). owns ++ unmet (is_seen c.meet_file.new.names) (is_seen c.meet_file-2.new.names) (joined c.args.lists.now)) c.new-others.ensures.items
    ∙ begun (is_seen c.meet_file.new.names) (is_seen c.meet_file-2.new.names) (own_name c.args.file.now)
    (λ other e. c.in_ok-meet_file.ensures other ∙ met_right (is_seen c.in_ok-repeats.repeats other) (same_text (own_name c.args.file.now) other) e)
    (λ other. c.in_ok-meet_file-2.ensures other ∙ ap (λ b. b || same_text (own_name c.args.file.now) other) (none_seen c.new-seen.result c.new-seen.ensures.empty other))
    (joined c.args.lists.now)
