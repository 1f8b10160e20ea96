-- The exit statuses of the mode `--pcap`.
use Rattle.click_cli.specs.Statuses.{config_status}
use Rattle.click_cli.specs.declared.status.Status.{Status}
use Rattle.click_cli.specs.declared.status.Status.TheVariants as status
use Rattle.click_prog.specs.declared.pcap.capture_router.PassageFault.{PassageFault}
use Rattle.click_prog.specs.declared.pcap.capture_router.PassageFault.TheVariants as none
use Rattle.click_prog.specs.declared.pcap.carry_fault.CarryFault.{CarryFault}
use Rattle.click_prog.specs.declared.pcap.carry_fault.CarryFault.TheVariants as carry_fault

-- the status if a run cannot begin
abbrev pub passage_status : PassageFault → Status
passage_status (none.Config fault) = config_status fault.kind
passage_status none.NoSource = status.Faulty
passage_status none.NoSink = status.Faulty
passage_status none.NoMemory = status.NoMemory

-- the status of a run that stopped early
abbrev pub carry_status : CarryFault → Status
carry_status (carry_fault.ShortHeader at) = status.Faulty
carry_status (carry_fault.Header fault) = status.Faulty
carry_status (carry_fault.Cut number at) = status.Faulty
carry_status (carry_fault.TooLong number at fault) = status.Faulty
carry_status (carry_fault.GivesOn number at) = status.Faulty
carry_status carry_fault.Uncounted = status.Faulty
carry_status carry_fault.NoMemory = status.NoMemory
carry_status carry_fault.ReadFailed = status.DeviceFailed
carry_status carry_fault.WriteFailed = status.DeviceFailed
