-- The definitions by which document 01 checks and reads a file, named once: a proof that says `unfolding computing` runs them on a file
-- that is written out.
use mathlib.Core.List.{flat_map}
use Rattle.laws.specs.Bytes.{is_blank, is_digit, is_capital, is_small, is_letter, capital, small, spelled_byte}
use Rattle.laws.specs.Lists.{front, after, keep, trim, all, among, other, eqs, one_of}
use Rattle.decimal.specs.Decimal.{is_minus, after_sign, point_places, after_point, figures, after_figures, numeral_from, numeral, significant, zeros_cut, after_e, exponent_digits, plus_exponent, minus_exponent, letters, scale_up, scale_down, ranged, result_of, unsigned, number_of, is_missing, given_cell, cell_of, less_than, above_zero}
use Rattle.words.specs.Words.{onto_word, grown, words, word, is_ink, rest_from}
use Rattle.lines.specs.Lines.{is_return, onto_line, lines_of, is_allowed, line_fault, fault_from, bytes_fault, cut}
use Rattle.name_table.specs.Names.{meaning, place_from}
use Rattle.name_table.specs.Places.{names_of}
use Rattle.hierarchy.specs.Hierarchy.{hierarchy}
use Rattle.keywords.specs.Form.{inside, closing, is_joint, in_parts, is_closed, is_formed, spelled, argument}
use Rattle.keywords.specs.Carried.{carried, gap_or_slip, key_of}
use Rattle.cut_lines.specs.Change.{is_change, none_or, change_to, change_of}
use Rattle.cut_lines.specs.Texts.{onto_texts, texts_from}
use Rattle.line_rules.specs.Fields.{is_sized, is_bracketed, needs_no_model, is_no_model, is_model_name, is_pin_model, is_pin_name, is_file_byte, is_file_name, is_version, word_by, exactly, ended, alone, passing, word_in, no_argument, cells_by, three_cells, row_of, slope_from, slope_of, slope_or_missing, upward, three_slopes, name_of, is_named, line_at, after_name, behind_name, word_line, cells_line, group_line, slopes_line, behind_equals, number_line, takes, line_says, same_words, differing, heading}
use Rattle.line_rules.specs.Tables.{locations, model_types, type_name, polarities, enables}
use Rattle.given.specs.Given.{has, with, gave}
use Rattle.rules.specs.Going.{unless, passes, refuse}
use Rattle.rules.specs.Header.{version, header_part, header_line, header_done}
use Rattle.rules.specs.Component.{kept_model, pin_cells, pin_in, pin_flaw, component_part, component_done}
use Rattle.rules.specs.Selector.{selector_line, selector_shut}
use Rattle.rules.specs.Types.{is_input, is_driven, is_ecl, defaults}
use Rattle.rules.specs.Model.{first_flaw, with_first, rises, ramp_flaw, begins_letter, waveform_line, single_part, waveform_part, table_fault, model_done}
use Rattle.rules.specs.Steps.{opened, on_version, on_plain, on_change}
use Rattle.rules.specs.Outline.{named, lists, count, first_failing}
use Rattle.rules.specs.Whole.{admit_entry, runs, last_checks, texts_of, outcome, loading}
use Rattle.rules.specs.Reading.{under, lines_under, key_says, pins_in, component_in, choice_in, choices_in, number_said, split_says, model_in, tables_in, rows_in, edge_of, waveform_in, sections_in, header_says, file_in}
use Rattle.rules.specs.Same.{table_of, waveforms_of}
use Rattle.layout.specs.Laid.{table_at, waveforms_laid, laid_from, laid}
use Rattle.records.specs.Flaws.{column_in}
use Rattle.records.specs.Stored.{padded, stored}

unfoldable pub computing : Unit {0}
unfolding is_blank is_digit is_capital is_small is_letter capital small front after keep trim all among other eqs is_minus after_sign point_places after_point figures after_figures numeral_from numeral significant zeros_cut after_e exponent_digits plus_exponent minus_exponent letters scale_up scale_down ranged result_of unsigned number_of is_missing given_cell cell_of less_than above_zero onto_word grown words word is_ink rest_from is_return onto_line lines_of is_allowed line_fault fault_from bytes_fault cut meaning place_from inside closing is_joint in_parts is_closed is_formed spelled_byte spelled argument carried hierarchy gap_or_slip key_of is_change none_or change_to change_of onto_texts texts_from is_sized is_bracketed one_of needs_no_model is_no_model is_model_name is_pin_model is_pin_name is_file_byte is_file_name is_version word_by exactly ended alone passing word_in no_argument cells_by three_cells row_of slope_from slope_of slope_or_missing upward three_slopes name_of is_named line_at after_name behind_name word_line cells_line group_line slopes_line behind_equals number_line takes line_says same_words differing heading locations model_types type_name names_of polarities enables has with gave unless passes refuse version header_part header_line header_done kept_model pin_cells pin_in pin_flaw component_part component_done selector_line selector_shut is_input is_driven is_ecl defaults first_flaw with_first rises ramp_flaw begins_letter waveform_line single_part waveform_part table_fault model_done opened on_version on_plain on_change named lists count first_failing admit_entry runs last_checks texts_of outcome loading under lines_under key_says pins_in component_in choice_in choices_in number_said split_says model_in tables_in rows_in edge_of waveform_in sections_in header_says file_in table_of waveforms_of table_at waveforms_laid laid_from laid column_in padded stored flat_map
computing = tt
