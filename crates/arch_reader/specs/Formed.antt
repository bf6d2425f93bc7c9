-- What the form of a statement makes sure of, whatever statements stand before it.
use Rattle.std.specs.Prelude.{ℕ, ◌<◌, ◌^◌, List, length, Option}
use Rattle.std.specs.List.{All}
use Rattle.std.specs.Option.{IfSome}
use Rattle.file_bricks.specs.Bounds.{IsAmount}
use Rattle.arch_reader.specs.declared.statement.KeyAmount.{KeyAmount}
use Rattle.arch_reader.specs.declared.statement.KeyColumn.{KeyColumn}
use Rattle.arch_reader.specs.declared.statement.Statement.{Statement}
use Rattle.arch_reader.specs.declared.statement.Statement.TheVariants.{Resource, Link, Traffic, Message, Merge, Map, Table, Quantity, QuantityTable, Hops, Delay, Deadline}

-- a whole number that a word may be
abbrev pub IsWhole : ℕ → Type 0
IsWhole n = n < 2 ^ 63

-- a word `OBJ=D` whose decimal lies within its bound
abbrev pub HasAmount : KeyAmount → Type 0
HasAmount w = IsAmount w.amount

-- a word `KEY=N` or `OBJ@N` whose number does
abbrev pub HasColumn : KeyColumn → Type 0
HasColumn k = IsWhole k.column

-- the place and the keys of a table line
pub record IsFormedTable (index : ℕ) (keys weights_at : List KeyColumn) : Type 0 where
  pub index_is_whole : IsWhole index
  pub keys_are_whole : All HasColumn keys
  pub places_are_whole : All HasColumn weights_at

-- the place of a table, a column of it, and where rows are named their column
pub record IsFormedQuantities (index column : ℕ) (rows : Option ℕ) : Type 0 where
  pub index_is_whole : IsWhole index
  pub column_is_whole : IsWhole column
  pub rows_are_whole : IfSome rows IsWhole

-- A statement is one that its form allows: a list that has to have something in it does (a receiver, a merged message, a
-- traffic word), and whole numbers and decimals lie within their bounds. A scale has a rule of its own.
abbrev pub IsFormed : Statement → Type 0
IsFormed (Resource name weights) = All HasAmount weights
IsFormed (Link name a b two_way weights) = All HasAmount weights
IsFormed (Traffic link weights) = (0 < length weights) × All HasAmount weights
IsFormed (Message name sender receivers) = 0 < length receivers
IsFormed (Merge name messages) = 0 < length messages
IsFormed (Map task resource time weights) = IfSome time IsAmount × All HasAmount weights
IsFormed (Table name index resource keys weights_at) = IsFormedTable index keys weights_at
IsFormed (Quantity message amount) = IsAmount amount
IsFormed (QuantityTable name index column rows) = IsFormedQuantities index column rows
IsFormed (Hops message limit) = IsWhole limit
IsFormed (Delay message amount) = IsAmount amount
IsFormed (Deadline task at) = IsAmount at
IsFormed s = Unit {0}
