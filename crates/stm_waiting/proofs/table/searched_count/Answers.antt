use Rattle.std.proofs.Common.{rules}
use Rattle.std.proofs.lemmas.List.Sorted.{IsPartitionedBy-leb, IsPartitionPoint-from_clause}
use Rattle.stm_waiting.specs.declared.table.TicketPlace.{TicketPlace}
use Rattle.stm_waiting.proofs.Searched.{non_decreasing, count_parted}
use Rattle.stm_waiting.proofs.table.searched_count.Goals as goal
use lib.Dec.{leb}

pub returns : goal.returns
returns c =
    count_parted c.args.ticket c.partition_point.result c.args.places.now c.partition_point.ensures.bound
    (IsPartitionPoint-from_clause (λ (p : TicketPlace). leb p.ticket c.args.ticket) c.args.places.now c.partition_point.result c.partition_point.ensures.partitioned
    (IsPartitionedBy-leb (λ (p : TicketPlace). p.ticket) c.args.places.now c.args.ticket (non_decreasing c.args.places.now c.requires)) (λ a r f' k. search rules))
