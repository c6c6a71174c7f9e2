-- The constants of the code are the numbers of the definitions.
use Rattle.std.specs.Prelude.{◌≡◌, refl}
use Rattle.load_files.specs.declared.loads.TheConstants.{MOST_OF_LOAD, MOST_OF_LOADS}
use Rattle.load_files.specs.Loaded.{most_of_load, most_of_loads}

most_of_load_is : MOST_OF_LOAD ≡ most_of_load
most_of_load_is = refl

most_of_loads_is : MOST_OF_LOADS ≡ most_of_loads
most_of_loads_is = refl
