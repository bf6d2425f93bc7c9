-- The limits of a specification.
use Rattle.std.specs.Prelude.{ℕ, ◌^◌}

abbrev pub most_tasks : ℕ
most_tasks = 1024

abbrev pub most_messages : ℕ
most_messages = 2048

abbrev pub most_resources : ℕ
most_resources = 256

abbrev pub most_links : ℕ
most_links = 1024

abbrev pub most_options : ℕ
most_options = 16384

abbrev pub most_objectives : ℕ
most_objectives = 8

-- the most variables of its encoding
abbrev pub most_variables : ℕ
most_variables = 2 ^ 20

-- the most terms of its encoding
abbrev pub most_terms : ℕ
most_terms = 2 ^ 23

-- the greatest weight, time, delay and quantity, and the greatest product of a traffic weight and a quantity
abbrev pub most_number : ℕ
most_number = 2 ^ 40
