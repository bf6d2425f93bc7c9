use Rattle.std.proofs.Common.{refl}
use Rattle.run_words.proofs.make.make_line.Goals as goal

pub read_line-requires : goal.read_line-requires
read_line-requires c = record { simple = refl; free = refl; built_is = refl; places = (refl, refl, refl); options = (refl, (refl, tt)) }
