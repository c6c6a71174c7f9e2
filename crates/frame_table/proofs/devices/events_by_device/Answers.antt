use Rattle.std.proofs.Common.{arith}
use Rattle.frame_table.proofs.devices.events_by_device.Goals as goal

pub overflow_add-len : goal.overflow_add-len
overflow_add-len c = omega (arith, c.requires.stations_most, c.requires.repeaters_most, c.len.ensures, c.len-2.ensures)
