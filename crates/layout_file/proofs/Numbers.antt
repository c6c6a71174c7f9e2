-- The constants of the code are the numbers of the definitions.
use Rattle.std.specs.Prelude.{◌≡◌, refl}
use Rattle.layout_file.specs.declared.reader.TheConstants.{LONGEST_FILE}
use Rattle.layout_file.specs.Faults.{longest_file}

longest_file_is : LONGEST_FILE ≡ longest_file
longest_file_is = refl
