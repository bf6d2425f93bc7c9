use Rattle.pb_rules.specs.Frames.{base_of, blocks_by}
use Rattle.pb_rules.proofs.Closed.{models_front, models_back}
use Rattle.pb_rules.proofs.Given.{given_sound}
use Rattle.pb_rules.proofs.Normal.{given_normal}
use Rattle.pb_rules.proofs.laws.law_of_lines.Goals as goal

pub returns-clause-sound : goal.returns-clause-sound
returns-clause-sound c v f g ls e m = given_sound v f (base_of f) g ls e (models_front v f.base (blocks_by f ls) m) (models_back v f.base (blocks_by f ls) m)

pub returns-clause-normal : goal.returns-clause-normal
returns-clause-normal c f g ls frame e = given_normal f (base_of f) g ls frame e frame.base_normal
