use Rattle.std.proofs.Common.{refl}
use Rattle.house_tests.proofs.command_lines.values.Goals as goal

pub read_line-requires : goal.read_line-requires
read_line-requires c = record { simple = refl; free = refl; built_is = refl; places = (refl, refl, (refl, refl, refl)); options = (refl, (refl, tt)) }
