use Rattle.std.proofs.Common.{◌∙◌}
use Rattle.mvm_set.specs.Seen.{is_seen, is_among, joined}
use Rattle.mvm_set.proofs.Single.{single_parts, met_left, met_right}
use Rattle.mvm_set.proofs.join.repeats_of.Goals as goal

pub returns : goal.returns
returns c =
    let before = c.lists_before.result.now in
    let behind = c.lists_behind.result.now in
    single_parts (is_seen c.meet_lists-2.new.names) c.args.lists.now before behind c.longest-place.result c.lists_behind.ensures.within c.lists_before.ensures c.lists_behind.ensures.value c.requires
    (λ other h. c.in_ok-meet_lists-2.ensures other
    ∙ met_left (is_seen c.meet_lists.new.names other) (is_among other (joined behind)) (c.in_ok-meet_lists.ensures other ∙ met_right (is_seen c.new-repeats.result other) (is_among other (joined before)) h))
    (λ other h. c.in_ok-meet_lists-2.ensures other ∙ met_right (is_seen c.meet_lists.new.names other) (is_among other (joined behind)) h)
