-- What faults are called and what they say.
--   ratio_text fault      what is wrong with a ratio
--   change_text fault     what is wrong with a batch of changes
--   error_word kind       the word that a refusal has on the wire
--   error_number kind     the number after it, of the version that refuses, where it has one
--   error_meaning kind    what the refusal means
use Rattle.std.specs.Prelude.{ℕ, List, ◌++◌, Option, Some, None, codes, decimal}
use Rattle.road_model.specs.declared.ratio.RatioFault.{RatioFault}
use Rattle.road_model.specs.declared.ratio.RatioFault.TheVariants as ratio
use Rattle.road_model.specs.declared.change.ChangeFault.{ChangeFault}
use Rattle.road_model.specs.declared.change.ChangeFault.TheVariants as change
use Rattle.road_model.specs.declared.request.ErrorKind.{ErrorKind}
use Rattle.road_model.specs.declared.request.ErrorKind.TheVariants as error

abbrev pub ratio_text : RatioFault → List ℕ
ratio_text ratio.Denominator = codes "the denominator is outside 1 to 1000000"
ratio_text ratio.TooLarge = codes "the ratio is above its cap"

abbrev pub change_text : ChangeFault → List ℕ
change_text change.ArcRange = codes "the arc is outside the graph"
change_text change.LengthRange = codes "the length is outside 1 to 4294967295"
change_text change.Full = codes "there is no further version"
change_text change.NoMemory = codes "out of memory"

abbrev pub error_word : ErrorKind → List ℕ
error_word error.Long = codes "long"
error_word error.Syntax = codes "syntax"
error_word error.Cursor = codes "cursor"
error_word error.Vertex = codes "vertex"
error_word error.Ratio = codes "ratio"
error_word error.Size = codes "size"
error_word (error.Behind number) = codes "behind"
error_word (error.Gone number) = codes "gone"
error_word error.ArcRange = codes "arc"
error_word error.LengthRange = codes "length"
error_word error.Full = codes "full"
error_word error.Memory = codes "memory"

abbrev pub error_number : ErrorKind → Option ℕ
error_number error.Long = None
error_number error.Syntax = None
error_number error.Cursor = None
error_number error.Vertex = None
error_number error.Ratio = None
error_number error.Size = None
error_number (error.Behind number) = Some number
error_number (error.Gone number) = Some number
error_number error.ArcRange = None
error_number error.LengthRange = None
error_number error.Full = None
error_number error.Memory = None

abbrev pub error_meaning : ErrorKind → List ℕ
error_meaning error.Long = codes "the line has more than 1024 bytes"
error_meaning error.Syntax = codes "the line is no request"
error_meaning error.Cursor = codes "the text is no cursor"
error_meaning error.Vertex = codes "a vertex is outside the graph"
error_meaning error.Ratio = codes "a ratio is above its cap, or its denominator is outside 1 to 1000000"
error_meaning error.Size = codes "the size of a page is outside 1 to 64"
error_meaning (error.Behind number) = codes "the version asked for is newer than version " ++ decimal number
error_meaning (error.Gone number) = codes "the answer of the cursor isn't kept any more in version " ++ decimal number
error_meaning error.ArcRange = codes "the arc is outside the graph"
error_meaning error.LengthRange = codes "the length is outside 1 to 4294967295"
error_meaning error.Full = codes "there is no further version"
error_meaning error.Memory = codes "out of memory"
