-- The schedules of two designs and their values, worked out by hand.
use Rattle.std.proofs.Common.{◌≡◌, [], ◌∷◌, refl}
use Rattle.spec_model.specs.Spec.{SpecValue, Bits, choice, empty_spec}
use Rattle.spec_model.specs.Rules.{of_task, arc_bit}
use Rattle.spec_model.specs.Schedule.{goes_to, depth, has_depth, placing, chosen_option, has_walk_of, walk_length, arrival, start_of, schedule, makespan, lateness, message_traffic, hopsum, on_resource, busy_time, peakload}
use Rattle.spec_model.proofs.Rows.{arc, names, of_list}

-- a sender on a and a receiver on c, with b between them; a hop takes 3
abbrev line : SpecValue
line = record empty_spec {
  tasks = names (115 ∷ (119 ∷ []));
  message_names = names (109 ∷ []);
  messages = record { sender = 0; receivers = 1 ∷ []; limit = 2; delay = 3; quantity = 1 } ∷ [];
  resources = names (97 ∷ (98 ∷ (99 ∷ [])));
  links = names (112 ∷ (113 ∷ []));
  arcs = arc 0 0 1 ∷ (arc 0 1 0 ∷ (arc 1 1 2 ∷ (arc 1 2 1 ∷ [])));
  options = choice 0 0 5 ∷ (choice 1 2 4 ∷ []);
  deadlines = record { task = 1; time = 12 } ∷ [];
}

abbrev over_both : Bits
over_both = of_list (0 ∷ (1 ∷ (2 ∷ (4 ∷ (6 ∷ (7 ∷ (8 ∷ (9 ∷ (10 ∷ [])))))))))

slots_line : schedule line over_both ≡ record { task = 1; resource = 2; start = 11; finish = 15 } ∷ (record { task = 0; resource = 0; start = 0; finish = 5 } ∷ [])
unfolding goes_to depth has_depth chosen_option of_task has_walk_of walk_length arrival start_of schedule
slots_line = refl

makespan_line : makespan line over_both ≡ 15
unfolding goes_to depth has_depth chosen_option of_task has_walk_of walk_length arrival start_of schedule makespan
makespan_line = refl

lateness_line : lateness line over_both ≡ 3
unfolding goes_to depth has_depth chosen_option of_task has_walk_of walk_length arrival start_of schedule lateness
lateness_line = refl

hopsum_line : hopsum line over_both ≡ 2
unfolding hopsum message_traffic arc_bit
hopsum_line = refl

peakload_line : peakload line over_both ≡ 5
unfolding peakload busy_time on_resource
peakload_line = refl

-- three tasks on one processor, a message from the first to the second: the third stands before the second
abbrev one_processor : SpecValue
one_processor = record empty_spec {
  tasks = names (97 ∷ (98 ∷ (99 ∷ [])));
  message_names = names (109 ∷ []);
  messages = record { sender = 0; receivers = 1 ∷ []; limit = 0; delay = 0; quantity = 1 } ∷ [];
  resources = names (112 ∷ []);
  options = choice 0 0 485 ∷ (choice 1 0 100 ∷ (choice 2 0 485 ∷ []));
}

placing_one_processor : placing one_processor ≡ 0 ∷ (2 ∷ (1 ∷ []))
unfolding goes_to depth has_depth
placing_one_processor = refl

makespan_one_processor : makespan one_processor (of_list (0 ∷ (1 ∷ (2 ∷ (3 ∷ []))))) ≡ 1070
unfolding goes_to depth has_depth chosen_option of_task has_walk_of walk_length arrival start_of schedule makespan
makespan_one_processor = refl
