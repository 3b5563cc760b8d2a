-- How a run ended: the number that the process ends with, and what it says on standard error.
--   status_number status   0 where the work was done, else one for each reason why it wasn't
--   status_text status     what it says, which the program writes after `road: ` where the work wasn't done
use Rattle.std.specs.Prelude.{ℕ, List, ◌++◌, codes, decimal}
use Rattle.dimacs_reader.specs.Messages.{kind_word}
use Rattle.certificate_text.specs.Messages.{fault_word}
use Rattle.route_server.specs.declared.status.Status.{Status}
use Rattle.route_server.specs.declared.status.Status.TheVariants.{Done, CheckedNo, Usage, GraphRefused, ReadFault, WriteFault, NoMemory, InputLong, QueryRefused}

abbrev pub status_number : Status → ℕ
status_number Done = 0
status_number (CheckedNo fault) = 1
status_number Usage = 2
status_number (GraphRefused fault) = 3
status_number ReadFault = 4
status_number WriteFault = 5
status_number NoMemory = 6
status_number InputLong = 7
status_number QueryRefused = 8

abbrev pub status_text : Status → List ℕ
status_text Done = codes "done"
status_text (CheckedNo fault) = codes "certificate refused at line " ++ (decimal fault.line ++ (codes ": " ++ fault_word fault.kind))
status_text Usage = codes "usage"
status_text (GraphRefused fault) = codes "graph refused at line " ++ (decimal fault.line ++ (codes ": " ++ kind_word fault.kind))
status_text ReadFault = codes "read fault"
status_text WriteFault = codes "write fault"
status_text NoMemory = codes "out of memory"
status_text InputLong = codes "input too long"
status_text QueryRefused = codes "vertex out of range"
