-- The refusals: their numbers, their order and their names.
use Rattle.std.specs.Prelude.{ℕ, ◌+◌, ◌*◌, List, codes}
use Rattle.line_words.specs.declared.refusals.Why.{Why}
use Rattle.line_words.specs.declared.refusals.Why.TheVariants.{BadByte, LongLine, NoHeader, BadStatement, BadNumber, UnknownName, RepeatedName, SelfLink, Unclosed, StrayClose, NoRow, NotWhole, TooBig, Cyclic, Limit, WrongBinding, NotInOrder}
use Rattle.line_words.specs.declared.refusals.What.{What}
use Rattle.line_words.specs.declared.refusals.What.TheVariants.{FileBytes, NameBytes, Tasks, Messages, Resources, Links, Options, Objectives, Variables, Terms}
use Rattle.line_words.specs.declared.refusals.FileTag.{FileTag}
use Rattle.line_words.specs.declared.refusals.Stop.{Stop}
use Rattle.line_words.specs.declared.refusals.Stop.TheVariants as stops
use Rattle.line_words.specs.declared.refusals.ReadFault.{ReadFault}
use Rattle.line_words.specs.declared.refusals.ReadFault.TheVariants as faults

-- the number of a refusal
abbrev pub refusal_number : Why → ℕ
refusal_number BadByte = 1
refusal_number LongLine = 2
refusal_number NoHeader = 3
refusal_number BadStatement = 4
refusal_number BadNumber = 5
refusal_number UnknownName = 6
refusal_number RepeatedName = 7
refusal_number SelfLink = 8
refusal_number Unclosed = 9
refusal_number StrayClose = 10
refusal_number NoRow = 11
refusal_number NotWhole = 12
refusal_number TooBig = 13
refusal_number Cyclic = 14
refusal_number (Limit what) = 15
refusal_number WrongBinding = 16
refusal_number NotInOrder = 17

-- the order of the limits at one line: the length of a name first
abbrev pub what_place : What → ℕ
what_place NameBytes = 0
what_place FileBytes = 1
what_place Tasks = 2
what_place Messages = 3
what_place Resources = 4
what_place Links = 5
what_place Options = 6
what_place Objectives = 7
what_place Variables = 8
what_place Terms = 9

-- the place of a limit; other refusals have none
abbrev pub place_of : Why → ℕ
place_of (Limit what) = what_place what
place_of why = 0

-- the places of limits lie below it, so that each limit comes before the refusal with the next number
abbrev pub places : ℕ
places = 1000

-- refusals in their order: by their number, and limits among each other by their place
abbrev pub rank : Why → ℕ
rank why = places * refusal_number why + place_of why

-- the name of a refusal
abbrev pub name_of : Why → List ℕ
name_of BadByte = codes "BadByte"
name_of LongLine = codes "LongLine"
name_of NoHeader = codes "NoHeader"
name_of BadStatement = codes "BadStatement"
name_of BadNumber = codes "BadNumber"
name_of UnknownName = codes "UnknownName"
name_of RepeatedName = codes "RepeatedName"
name_of SelfLink = codes "SelfLink"
name_of Unclosed = codes "Unclosed"
name_of StrayClose = codes "StrayClose"
name_of NoRow = codes "NoRow"
name_of NotWhole = codes "NotWhole"
name_of TooBig = codes "TooBig"
name_of Cyclic = codes "Cyclic"
name_of (Limit what) = codes "Limit"
name_of WrongBinding = codes "WrongBinding"
name_of NotInOrder = codes "NotInOrder"

-- the name of a limit
abbrev pub what_name : What → List ℕ
what_name FileBytes = codes "FileBytes"
what_name NameBytes = codes "NameBytes"
what_name Tasks = codes "Tasks"
what_name Messages = codes "Messages"
what_name Resources = codes "Resources"
what_name Links = codes "Links"
what_name Options = codes "Options"
what_name Objectives = codes "Objectives"
what_name Variables = codes "Variables"
what_name Terms = codes "Terms"

-- what a reader answers that stops at a line of a file
abbrev pub fault_at : FileTag → ℕ → Stop → ReadFault
fault_at file line (stops.Broken why) = faults.Refused (record { file = file; line = line; why = why })
fault_at file line stops.NoMemory = faults.NoMemory
