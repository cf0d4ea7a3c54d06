-- The limits of document 01, once.
use Rattle.std.specs.Prelude.{ℕ}

-- the outer field has depth 1, the deepest allowed is 32
abbrev pub deepest : ℕ
deepest = 32

-- refusal 12: over 1,024 cells
abbrev pub most_cells : ℕ
most_cells = 1024

-- refusal 4: a name has 1 to 24 characters
abbrev pub longest_name : ℕ
longest_name = 24

-- refusal 5: a 65th variable
abbrev pub most_variables : ℕ
most_variables = 64

-- refusal 5: a 9th process
abbrev pub most_processes : ℕ
most_processes = 8

-- refusal 1: a module file over 16,384 bytes
abbrev pub longest_module : ℕ
longest_module = 16384

-- refusal 1: a netlist file over 32,768 bytes
abbrev pub longest_netlist : ℕ
longest_netlist = 32768

-- refusal 1: a file shorter than 3 bytes
abbrev pub shortest_file : ℕ
shortest_file = 3
