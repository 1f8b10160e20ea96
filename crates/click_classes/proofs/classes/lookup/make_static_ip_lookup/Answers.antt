use Rattle.click_classes.proofs.OfRoutes.PrefixLengths.{table_short}
use Rattle.click_classes.proofs.classes.lookup.make_static_ip_lookup.Goals as goal

pub of-requires : goal.of-requires
of-requires c = table_short _ c.in_ok-table.table c.in_ok-table.ensures
