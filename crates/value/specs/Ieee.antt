-- IEEE 1364's value characters: to be read beside the standard.
use Prim.Native.String.{String}

abbrev pub value_characters : String
value_characters = "01xXzZ"
