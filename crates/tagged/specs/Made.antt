-- What the constructor of each limited kind answers: the number within the limit, else nothing.
use Rattle.std.specs.Prelude.{ℕ, Option}
use Rattle.words.specs.Limited.{limited}
use Rattle.words.specs.declared.limits.Limited.{Limited}
use Rattle.tagged.specs.Limits.{deepest, most_cells, longest_name, most_variables, most_processes, longest_module, longest_netlist, shortest_file}

-- a depth of at most 32
abbrev pub made_depth : ℕ → Option (Limited 0 deepest)
made_depth n = limited 0 deepest n

-- at most 1,024 cells
abbrev pub made_cells : ℕ → Option (Limited 0 most_cells)
made_cells n = limited 0 most_cells n

-- a length of 1 to 24
abbrev pub made_name : ℕ → Option (Limited 1 longest_name)
made_name n = limited 1 longest_name n

-- at most 64 variables
abbrev pub made_variables : ℕ → Option (Limited 0 most_variables)
made_variables n = limited 0 most_variables n

-- at most 8 processes
abbrev pub made_processes : ℕ → Option (Limited 0 most_processes)
made_processes n = limited 0 most_processes n

-- a length of 3 to 16,384 bytes
abbrev pub made_module_file : ℕ → Option (Limited shortest_file longest_module)
made_module_file n = limited shortest_file longest_module n

-- a length of 3 to 32,768 bytes
abbrev pub made_netlist_file : ℕ → Option (Limited shortest_file longest_netlist)
made_netlist_file n = limited shortest_file longest_netlist n
