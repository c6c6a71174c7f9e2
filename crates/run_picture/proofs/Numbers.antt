-- The constants of the code are the numbers of the definitions.
use Rattle.std.specs.Prelude.{◌≡◌, refl}
use Rattle.run_picture.specs.declared.sizes.TheConstants.{PLOT_WIDTH, LANE_DISTANCE, PLACE_HEIGHT, ENTRIES_A_ROW, ENTRY_WIDTH, ENTRY_HEIGHT, FIRST_TOP, BAND_GAP, LONGEST_LARGE_NAME, WORD_SHARE, HALF_BITS_A_MICROSECOND, HALF_BITS_A_TENTH, MOST_STEPS, LONGEST_STEP, LONGEST_WINDOW}
use Rattle.run_picture.specs.Sizes.{plot_width, lane_distance, place_height, entries_a_row, entry_width, entry_height, first_top, band_gap, longest_large_name, word_share, half_bits_a_microsecond, half_bits_a_tenth, most_steps, longest_step, longest_window}

plot_width_is : PLOT_WIDTH ≡ plot_width
plot_width_is = refl

lane_distance_is : LANE_DISTANCE ≡ lane_distance
lane_distance_is = refl

place_height_is : PLACE_HEIGHT ≡ place_height
place_height_is = refl

entries_a_row_is : ENTRIES_A_ROW ≡ entries_a_row
entries_a_row_is = refl

entry_width_is : ENTRY_WIDTH ≡ entry_width
entry_width_is = refl

entry_height_is : ENTRY_HEIGHT ≡ entry_height
entry_height_is = refl

first_top_is : FIRST_TOP ≡ first_top
first_top_is = refl

band_gap_is : BAND_GAP ≡ band_gap
band_gap_is = refl

longest_large_name_is : LONGEST_LARGE_NAME ≡ longest_large_name
longest_large_name_is = refl

word_share_is : WORD_SHARE ≡ word_share
word_share_is = refl

half_bits_a_microsecond_is : HALF_BITS_A_MICROSECOND ≡ half_bits_a_microsecond
half_bits_a_microsecond_is = refl

half_bits_a_tenth_is : HALF_BITS_A_TENTH ≡ half_bits_a_tenth
half_bits_a_tenth_is = refl

most_steps_is : MOST_STEPS ≡ most_steps
most_steps_is = refl

longest_step_is : LONGEST_STEP ≡ longest_step
longest_step_is = refl

longest_window_is : LONGEST_WINDOW ≡ longest_window
longest_window_is = refl
