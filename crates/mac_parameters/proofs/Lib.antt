mod Numbers
