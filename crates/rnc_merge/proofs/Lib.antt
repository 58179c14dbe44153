mod ReadInputs
