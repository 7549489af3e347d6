-- The one claim: every row of the table holds. Assumes nothing.
use Rattle.std.specs.Prelude.{refl, List, [], ◌∷◌, ◌++◌}
use Rattle.std.specs.Int.Count.{count_trailing_zeros}
use Rattle.std.specs.Float.Ieee.{of_bits, of_fields, odd, units, round, size, span, climb, neg, sum, add, sub, mul, div, lt, eq, le}
use Rattle.errors.specs.Lists.{last_of}
use Rattle.root.specs.Sqrt.{root_digits, whole_root, root_of_units, sqrt_of}
use Rattle.points.specs.Points.{dot_of, norm_of, dist_of, difference, normalized, mid_point_of}
use Rattle.line2.specs.Lines.{line_through, at_param, line_projection, line_normalized}
use Rattle.line2.specs.Intersection.{intersection_param}
use Rattle.curve2.specs.Section.{points_of, plain_dist, ends_meet, is_closed, lengths_from, lengths_of, whole_length}
use Rattle.curve2.specs.Entry.{bad_numbers, crowded, not_rising, section_entry}
use Rattle.cleaning.specs.Cleaning.{kept_after, kept, forced_closed, curve_of, cleaned}
use Rattle.queries.specs.Hits.{edges_of, edge_hit, hits_from, inserted, sorted_into, neighbours, nearby_neighbour, dropped_after, dropped}
use Rattle.queries.specs.Crossing.{span_of, spanned, crossed, crossing_of, crossing_with}
use Rattle.queries.specs.Nearest.{closest_on_all, least_of, least_of_all, nearest_of}
use Rattle.points.specs.Closest.{fraction_on, held_point, measured_to, closest_on_edge}
use Rattle.curve2.specs.Stations.{edge_direction, mean_direction, vertex_direction, at_vertex}
use Rattle.sections.specs.Places.{inside_edge, at_length_from, at_length, length_along, lengths_along, closest_lengths}
use Rattle.inscribed.specs.Circles.{camber_point}
use Rattle.circles.specs.Asked.{circle_entry, try_asked}
use Rattle.halving.specs.Halving.{moved_ends, halved, circle_between, halving, halved_from, from_line, circle_on, try_inscribed}
use Rattle.sections.specs.Asked.{at_length_asked, crossing_asked, joined_asked}
use Rattle.inscribed.specs.Store.{numbers_of, circle_from, circles_from, all_numbers, stored, bad_circle, any_bad}
use Rattle.line2.specs.Rays.{ray_normalized, ray_projection, at_distance, shifted_ray, halfway_ray}
use Rattle.circles.specs.Trial.{judged, tried_on, trial}
use Rattle.runs.specs.Run.{next, run, whole}
use Rattle.refine.specs.Machine.{with_room, after_trial, refine_move, measure, refine_step}
use Rattle.inscribed.specs.Lists.{front_and_back, tmax_from, tmax}
use Rattle.lists.specs.Asked.{store_entry, tmax_asked}
use Rattle.orient.specs.Votes.{votes_from, majority}
use Rattle.orient.specs.Orientation.{center_dot, less_forward, dir_fwd, vote_of, dir_upper, orient_entry, fwd_asked, upper_asked}
use Rattle.lists.specs.Ends.{last_pair, middle_line, faced_line, clip_line, end_camber_ray}
use Rattle.gap.specs.Gap.{gap_of, cap_point, cap_intersection}
use Rattle.gap.specs.Probe.{ahead_of, turned_to, across_ray, probe_line, probed}
use Rattle.gap.specs.Rounds.{moved_point, after_move, after_refined, after_probe, round as oneRound, onward, rounds}
use Rattle.edges.specs.Edges.{start_at_end, fit_start, fit_from, fit_reported, fitted, edge_entry, fit_after}
use Rattle.worked.specs.Worked.{Row, row, Holds, R, four, two, line, crossing, vector, U, upright, circle, unused, pair_of_u, swapped_of_u, at_x, on_axis, turned_on_axis, edge_of_u, numbered, fit_ran, P1, P2, P3, P4, P5, P6, halved_times, P7, P8, P9, P10, P11, P12, table}

-- the rows that need no run, and those of the edge fit
steps_hold : Holds (P1 ∷ P2 ∷ P3 ∷ P4 ∷ P5 ∷ P6 ∷ P7 ∷ P8 ∷ P9 ∷ P10 ∷ [])
unfolding P1 P2 P3 P4 P5 P6 P7 P8 P9 P10 halved_times R U four two line crossing vector upright circle unused pair_of_u swapped_of_u at_x on_axis turned_on_axis edge_of_u numbered fit_ran sqrt_of root_of_units whole_root root_digits units size span climb odd count_trailing_zeros of_bits of_fields round neg sum add sub mul div lt eq le
    dot_of norm_of difference normalized line_through at_param intersection_param points_of plain_dist is_closed lengths_from lengths_of whole_length bad_numbers crowded not_rising section_entry kept_after kept last_of ends_meet forced_closed curve_of cleaned
    edges_of edge_hit hits_from inserted sorted_into neighbours nearby_neighbour dropped_after dropped span_of spanned crossed crossing_of crossing_with edge_direction mean_direction vertex_direction at_vertex inside_edge at_length_from at_length length_along lengths_along closest_lengths at_length_asked crossing_asked joined_asked circle_entry try_asked
    closest_on_all least_of least_of_all nearest_of fraction_on held_point measured_to closest_on_edge line_projection dist_of moved_ends halved circle_between halving halved_from from_line
    camber_point numbers_of circle_from circles_from all_numbers stored bad_circle any_bad mid_point_of line_normalized ray_normalized ray_projection at_distance shifted_ray halfway_ray circle_on try_inscribed judged tried_on trial
    next run whole with_room after_trial refine_move measure refine_step tmax_from tmax store_entry tmax_asked front_and_back center_dot less_forward dir_fwd vote_of votes_from majority dir_upper orient_entry fwd_asked upper_asked last_pair middle_line faced_line clip_line end_camber_ray
    gap_of cap_point cap_intersection ahead_of turned_to across_ray probe_line probed moved_point after_move after_refined after_probe oneRound onward rounds edge_entry start_at_end fit_start fit_from fit_reported fitted fit_after
steps_hold = (refl, (refl, (refl, (refl, (refl, (refl, (refl, (refl, (refl, (refl, tt))))))))))

fits_hold : Holds (P11 ∷ P12 ∷ [])
unfolding P11 P12 halved_times R U four two line crossing vector upright circle unused pair_of_u swapped_of_u at_x on_axis turned_on_axis edge_of_u numbered fit_ran sqrt_of root_of_units whole_root root_digits units size span climb odd count_trailing_zeros of_bits of_fields round neg sum add sub mul div lt eq le
    dot_of norm_of difference normalized line_through at_param intersection_param points_of plain_dist is_closed lengths_from lengths_of whole_length bad_numbers crowded not_rising section_entry kept_after kept last_of ends_meet forced_closed curve_of cleaned
    edges_of edge_hit hits_from inserted sorted_into neighbours nearby_neighbour dropped_after dropped span_of spanned crossed crossing_of crossing_with edge_direction mean_direction vertex_direction at_vertex inside_edge at_length_from at_length length_along lengths_along closest_lengths at_length_asked crossing_asked joined_asked circle_entry try_asked
    closest_on_all least_of least_of_all nearest_of fraction_on held_point measured_to closest_on_edge line_projection dist_of moved_ends halved circle_between halving halved_from from_line
    camber_point numbers_of circle_from circles_from all_numbers stored bad_circle any_bad mid_point_of line_normalized ray_normalized ray_projection at_distance shifted_ray halfway_ray circle_on try_inscribed judged tried_on trial
    next run whole with_room after_trial refine_move measure refine_step tmax_from tmax store_entry tmax_asked front_and_back center_dot less_forward dir_fwd vote_of votes_from majority dir_upper orient_entry fwd_asked upper_asked last_pair middle_line faced_line clip_line end_camber_ray
    gap_of cap_point cap_intersection ahead_of turned_to across_ray probe_line probed moved_point after_move after_refined after_probe oneRound onward rounds edge_entry start_at_end fit_start fit_from fit_reported fitted fit_after
fits_hold = (refl, (refl, tt))

both_hold : (rs qs : List Row) → Holds rs → Holds qs → Holds (rs ++ qs)
both_hold [] qs a b = b
both_hold (row given wanted ∷ rs) qs a b = (a.0, both_hold rs qs a.1 b)

-- the claim
pub rows_hold : Holds table
unfolding table
rows_hold = both_hold (P1 ∷ P2 ∷ P3 ∷ P4 ∷ P5 ∷ P6 ∷ P7 ∷ P8 ∷ P9 ∷ P10 ∷ []) (P11 ∷ P12 ∷ []) steps_hold fits_hold
