use Rattle.std.proofs.Common.{None, leb, arith, rules}
use Rattle.std.proofs.lemmas.List.Sorted.{IsPartitionPoint-from_clause, IsPartitionedBy-leb}
use Rattle.click_classes.specs.declared.routes.AddressRange.{AddressRange}
use Rattle.click_classes.specs.kept.Ranges.{start_of}
use Rattle.click_classes.proofs.OfRoutes.RouteRanges.{some_before, is_in}
use Rattle.click_classes.proofs.routes.range_entry.Goals as goal

blank : AddressRange
blank = record { start = 0; entry = None }

pub overflow_sub-result : goal.overflow_sub-result
overflow_sub-result c =
    let parted = IsPartitionedBy-leb start_of _ c.args.word c.requires.ranges.ascending in
    let point = IsPartitionPoint-from_clause (λ g. leb (start_of g) c.args.word) _ _ c.partition_point-after.ensures.partitioned parted (λ a r q k. search rules) in
    some_before c.args.ranges.now c.args.word _ blank c.requires.some c.requires.ranges c.partition_point-after.ensures.bound point.0 point.1

pub returns : goal.returns
returns c =
    let parted = IsPartitionedBy-leb start_of _ c.args.word c.requires.ranges.ascending in
    let point = IsPartitionPoint-from_clause (λ g. leb (start_of g) c.args.word) _ _ c.partition_point-after.ensures.partitioned parted (λ a r q k. search rules) in
    λ rows have. have.entry_is _ c.args.word _ (is_in c.args.ranges.now c.args.word _ _ c.requires.some c.requires.ranges c.partition_point-after.ensures.bound point.0 point.1) (omega arith)
