-- The names of the global handlers that can be read.
use Rattle.std.specs.Prelude.{ℕ, List, codes}
use Rattle.click_router.specs.declared.globals.GlobalHandler.{GlobalHandler}
use Rattle.click_router.specs.declared.globals.GlobalHandler.TheVariants as handler

abbrev pub name_of : GlobalHandler → List ℕ
name_of handler.Version = codes "version"
name_of handler.List = codes "list"
name_of handler.Config = codes "config"
name_of handler.FlatConfig = codes "flatconfig"
name_of handler.Classes = codes "classes"
name_of handler.Overruns = codes "overruns"
